use Rattle.std.proofs.Common.{◌≡◌}
use Rattle.parity.specs.Stripe.{gaps}
use Rattle.recovery.specs.Losses.{noted}
use Rattle.recovery.proofs.columns.lost_data.Given as goal

abbrev pub invariant-loop-t : goal.invariant-loop-t
invariant-loop-t g l = l.lost ≡ noted (gaps (g.S.AtHand.held l.columns) l.t)
