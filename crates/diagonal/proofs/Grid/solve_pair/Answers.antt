use Rattle.std.proofs.Common.{replicate, refl, arith}
use Rattle.prime.proofs.Repeats.{length_row, byte_of_zeros}
use Rattle.prime.proofs.Walks.{stride, walked_none, walked_more, walk_solves, next_within, low_k, low_r, first_row}
use Rattle.diagonal.specs.Facts.{sizes_of}
use Rattle.diagonal.proofs.Grid.solve_pair.Goals as goal

pub overflow_add-v : goal.overflow_add-v
overflow_add-v c = omega (arith, (sizes_of c.args.self.now).low)

pub overflow_add-self : goal.overflow_add-self
overflow_add-self c = omega (arith, (sizes_of c.args.self.now).low)

pub loop-m-init : goal.loop-m-init
loop-m-init c =
    let g = c.args.self.now in
    walked_none (sizes_of g) (stride g.prime g.indivisible c.args.u c.args.v c.fold-step.result c.requires.low c.requires.apart c.fold-step.ensures.value) c.args.buffer.now c.args.buffer.now (replicate 512 0) c.fold-r.result c.told-buffer refl (byte_of_zeros 512)
    (first_row g.prime g.indivisible.0 c.args.u c.fold-step.result c.fold-r.result c.requires.low c.fold-r.ensures.value)

pub row-requires : goal.row-requires
row-requires c =
    let g = c.args.self.now in
    record { within = omega (arith, (sizes_of g).run c.loop-m.r (low_r c.loop-m.invariant), (sizes_of g).short, c.close-given.ensures.long) }

pub overflow_add-k : goal.overflow_add-k
overflow_add-k c =
    let g = c.args.self.now in
    omega (arith, (sizes_of g).low, c.loop-m.invariant.stride.low, low_k c.loop-m.invariant)

pub overflow_add-r : goal.overflow_add-r
overflow_add-r c =
    let g = c.args.self.now in
    omega (arith, (sizes_of g).low, c.loop-m.invariant.stride.low, low_r c.loop-m.invariant)

pub row-requires-in-loop-m : goal.row-requires-in-loop-m
row-requires-in-loop-m c = record { within = omega (arith, (sizes_of c.args.self.now).short, c.xor_run.auto.into, c.loop-m.invariant.room) }

pub put_row-requires : goal.put_row-requires
put_row-requires c =
    let g = c.args.self.now in
    record {
      sized = length_row g.width 0 c.xor_run.new.into c.row-in-loop-m.result.now (omega (arith, (sizes_of g).short, c.xor_run.auto.into, c.loop-m.invariant.room)) c.row-in-loop-m.ensures.value;
      within = omega (arith, (sizes_of g).within c.fold-k.result (next_within (sizes_of g) c.loop-m.invariant c.loop-m-test.true c.fold-k.ensures.value), c.loop-m.invariant.long);
    }

pub loop-m-preserved : goal.loop-m-preserved
loop-m-preserved c =
    let g = c.args.self.now in
    walked_more (sizes_of g) c.loop-m.invariant c.loop-m-test.true c.fold-k.ensures.value c.close-given.result c.row.result.now c.xor_run.new.into
    c.close-given.ensures.cells (omega (arith, (sizes_of g).run c.loop-m.r (low_r c.loop-m.invariant), (sizes_of g).short, c.close-given.ensures.long)) c.fold-r-in-loop-m.ensures.value
    c.row.ensures.value c.xor_run.ensures.after c.row-in-loop-m.ensures.value c.put_row.ensures.after

pub returns : goal.returns
returns c =
    let g = c.args.self.now in
    record {
      after = walk_solves g.prime g.indivisible c.args.u c.args.v c.fold-step.result c.requires.low c.requires.apart c.fold-step.ensures.value (sizes_of g) c.loop-m-test.false c.loop-m.invariant;
    }
