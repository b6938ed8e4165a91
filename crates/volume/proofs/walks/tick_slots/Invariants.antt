use Rattle.member.specs.Changes.{Ticked}
use Rattle.contents.specs.Changes.{Steps, Moved}
use Rattle.std.proofs.Common.{◌≡◌}
use Rattle.volume.specs.Slots.{members_of}
use Rattle.volume.specs.Turns.{in_turn}
use Rattle.volume.proofs.walks.tick_slots.Given as goal

abbrev pub invariant-loop-slot : goal.invariant-loop-slot
invariant-loop-slot g l =
    Steps l.slot (λ i. Moved Ticked i) (members_of (g.B.Bank.meaning (g.B.Bank.state l.initial.bank))) (members_of (g.B.Bank.meaning (g.B.Bank.state l.bank)))
    × (g.B.Bank.state l.bank ≡ in_turn g.B.Bank.ticked l.slot (g.B.Bank.state l.initial.bank))
