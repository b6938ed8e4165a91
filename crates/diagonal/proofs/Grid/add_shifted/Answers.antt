use Rattle.std.proofs.Common.{ℕ, ◌*◌, ap, arith}
use Rattle.prime.proofs.Runs.{two_runs}
use Rattle.diagonal.specs.Facts.{sizes_of}
use Rattle.diagonal.proofs.Grid.add_shifted.Goals as goal

pub slice_bounds-xor_run-count : goal.slice_bounds-xor_run-count
slice_bounds-xor_run-count c = (sizes_of c.args.self.now).run c.args.s c.requires.shift

pub slice_bounds-xor_run-start : goal.slice_bounds-xor_run-start
slice_bounds-xor_run-start c = (sizes_of c.args.self.now).run c.args.s c.requires.shift

pub overflow_sub-rest : goal.overflow_sub-rest
overflow_sub-rest c = (sizes_of c.args.self.now).run c.saturating_sub.result (omega arith)

pub returns : goal.returns
returns c =
    let w = c.args.self.now.width in
    record {
      after = two_runs c.args.self.now.prime w 512 (sizes_of c.args.self.now) c.args.s c.requires.shift c.args.block.now c.args.into.now c.xor_run.new.into c.xor_run-2.new.into (c.saturating_sub.result * w) c.told-block c.told-into
          (ap (λ (k : ℕ). k * w) c.saturating_sub.ensures) c.xor_run.ensures.after c.xor_run-2.ensures.after;
    }
