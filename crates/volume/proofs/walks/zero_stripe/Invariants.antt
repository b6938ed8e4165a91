use Rattle.code.specs.Blocks.{zeros}
use Rattle.member.specs.Changes.{Written}
use Rattle.contents.specs.Changes.{Steps, Moved}
use Rattle.std.proofs.Common.{◌≡◌}
use Rattle.volume.specs.Slots.{members_of}
use Rattle.volume.specs.Turns.{in_turn}
use Rattle.volume.proofs.walks.zero_stripe.Given as goal

abbrev pub invariant-loop-slot : goal.invariant-loop-slot
invariant-loop-slot g l =
    Steps l.slot (λ i. Moved (λ a b. Written a l.s zeros b) i) (members_of (g.B.Bank.meaning (g.B.Bank.state l.initial.bank))) (members_of (g.B.Bank.meaning (g.B.Bank.state l.bank)))
    × (g.B.Bank.state l.bank ≡ in_turn (λ t i. g.B.Bank.wrote t i l.s zeros) l.slot (g.B.Bank.state l.initial.bank))
