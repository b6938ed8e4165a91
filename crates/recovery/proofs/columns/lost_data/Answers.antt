use Rattle.std.proofs.Common.{◌≡◌, sym, ap, subst, arith}
use Rattle.parity.specs.Stripe.{gaps}
use Rattle.parity.proofs.Gaps.{gaps_none}
use Rattle.recovery.specs.Losses.{noted}
use Rattle.recovery.proofs.Marks.{some_at, lost_next}
use Rattle.recovery.proofs.columns.lost_data.Goals as goal

pub loop-t-init : goal.loop-t-init
loop-t-init g c = sym (ap noted (gaps_none _))

pub loop-t-preserved : goal.loop-t-preserved
loop-t-preserved g c =
    let cols = g.S.AtHand.held c.args.columns.now in
    lost_next cols c.loop-t.t c.is_some.result _ _ (some_at c.at.result (cols c.loop-t.t) _ c.at.ensures.value c.is_some.ensures) c.loop-t.invariant c.note.ensures.after

pub returns : goal.returns
returns g c =
    let e : c.loop-t.t ≡ c.args.k = omega arith in
    record { value = subst (λ n. c.loop-t.lost ≡ noted (gaps (g.S.AtHand.held c.args.columns.now) n)) e c.loop-t.invariant }
