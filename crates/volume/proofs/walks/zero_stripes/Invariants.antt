use Rattle.code.specs.Blocks.{zeros}
use Rattle.member.specs.Changes.{Written}
use Rattle.contents.specs.Changes.{Steps, Moved}
use Rattle.std.proofs.Common.{◌≡◌}
use Rattle.volume.specs.Slots.{members_of}
use Rattle.volume.specs.Turns.{in_turn}
use Rattle.volume.proofs.walks.zero_stripes.Given as goal

abbrev pub invariant-loop-s : goal.invariant-loop-s
invariant-loop-s g l =
    Steps l.s (λ s. Steps l.n (λ i. Moved (λ a b. Written a s zeros b) i)) (members_of (g.B.Bank.meaning (g.B.Bank.state l.initial.bank))) (members_of (g.B.Bank.meaning (g.B.Bank.state l.bank)))
    × (g.B.Bank.state l.bank ≡ in_turn (λ t s. in_turn (λ u i. g.B.Bank.wrote u i s zeros) l.n t) l.s (g.B.Bank.state l.initial.bank))
