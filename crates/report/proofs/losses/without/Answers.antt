use Rattle.std.proofs.Common.{set, None, refl, ◌∙◌, arith}
use Rattle.std.proofs.lemmas.List.{length-set}
use Rattle.report.proofs.Wholes.{one_more, taken_away}
use Rattle.report.proofs.losses.without.Goals as goal

pub loop-t-init : goal.loop-t-init
loop-t-init c = record { count = refl; filled = λ u l. absurd (omega arith) }

pub loop-t-preserved : goal.loop-t-preserved
loop-t-preserved c =
    let kept = c.loop-t.invariant in record {
      count = length-set c.loop-t.left c.loop-t.t _ ∙ kept.count;
      filled = one_more c.args.columns.now c.loop-t.left c.loop-t.t _ (omega arith) refl kept.filled;
    }

pub returns : goal.returns
returns c =
    let kept = c.loop-t.invariant in record {
      count = length-set (set c.loop-t.left c.args.i None) c.args.j None ∙ length-set c.loop-t.left c.args.i None ∙ kept.count;
      left = λ t l. taken_away c.args.columns.now c.loop-t.left c.args.i c.args.j t (omega arith) (omega arith) (kept.filled t (omega arith));
    }
