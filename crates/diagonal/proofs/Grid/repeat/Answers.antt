use Rattle.std.proofs.Common.{ℕ, get_or, replicate, refl, ap, ◌∙◌, arith}
use Rattle.diagonal.specs.Facts.{sizes_of}
use Rattle.prime.proofs.Repeats.{filled_first, filled_more, filled_all}
use Rattle.diagonal.proofs.Grid.repeat.Goals as goal

pub put_row-requires : goal.put_row-requires
put_row-requires c = record { sized = c.requires.sized; within = omega (arith, (sizes_of c.args.self.now).short) }

pub loop-done-init : goal.loop-done-init
loop-done-init c = filled_first c.args.self.now.prime c.args.self.now.width 512 (sizes_of c.args.self.now) c.args.row.now (replicate 512 0) c.put_row.new.block refl c.requires.sized c.put_row.ensures.after

pub loop-done-preserved : goal.loop-done-preserved
loop-done-preserved c =
    filled_more c.args.self.now.prime c.args.self.now.width 512 (sizes_of c.args.self.now) c.args.row.now c.loop-done.block c.copy_within.new.self c.loop-done.done c.min-more.result
    c.loop-done-test.true c.min-more.ensures c.loop-done.invariant (c.copy_within.ensures.len ∙ c.loop-done.invariant.long)
    (λ k h. c.copy_within.ensures.by_index.1 k 0 h) (λ k h l. c.copy_within.ensures.by_index.0 k 0 h (omega arith) ∙ ap (λ (i : ℕ). get_or c.loop-done.block i 0) (omega arith))

pub returns : goal.returns
returns c = record {
  value = filled_all c.args.self.now.prime c.args.self.now.width 512 (sizes_of c.args.self.now) c.args.row.now c.loop-done.block c.loop-done.done c.loop-done-test.false c.loop-done.invariant;
}
