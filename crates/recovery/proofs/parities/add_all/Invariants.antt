use Rattle.std.proofs.Common.{◌≡◌}
use Rattle.parity.specs.Stripe.{sum}
use Rattle.recovery.specs.Columns.{content}
use Rattle.recovery.proofs.parities.add_all.Given as goal

abbrev pub invariant-loop-j : goal.invariant-loop-j
invariant-loop-j g l =
    (l.p ≡ sum l.j (content l.data))
    × (l.q ≡ sum l.j (λ i. (g.C.Code.coding l.code).mix i (content l.data i)))
