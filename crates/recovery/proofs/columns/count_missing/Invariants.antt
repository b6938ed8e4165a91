use Rattle.std.proofs.Common.{◌≡◌, ◌≤◌}
use Rattle.parity.specs.Stripe.{missing}
use Rattle.recovery.proofs.columns.count_missing.Given as goal

abbrev pub invariant-loop-t : goal.invariant-loop-t
invariant-loop-t g l = record {
  counted : l.count ≡ missing (g.S.AtHand.held l.columns) l.t;
  low : l.count ≤ l.t;
}
