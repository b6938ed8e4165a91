use Rattle.std.proofs.Common.{◌≡◌, ℕ, ap, ◌∙◌, subst, arith}
use Rattle.code.specs.Blocks.{zeros}
use Rattle.member.specs.Changes.{Written}
use Rattle.contents.specs.Changes.{Steps, Moved}
use Rattle.contents.proofs.Walks.{steps_none, steps_more}
use Rattle.volume.specs.Slots.{members_of}
use Rattle.volume.specs.Turns.{in_turn}
use Rattle.volume.proofs.Walking.{written_moved, turn_none, turn_more}
use Rattle.volume.proofs.walks.zero_stripe.Goals as goal

pub loop-slot-init : goal.loop-slot-init
loop-slot-init g c = (steps_none _ _, turn_none _ _)

pub loop-slot-preserved : goal.loop-slot-preserved
unfolding zeros
loop-slot-preserved g c = (
  steps_more _ _ _ _ _ c.loop-slot.invariant.0 (written_moved _ _ _ _ _ c.write.ensures.after),
  c.write.ensures.exact ∙ turn_more (λ t i. g.B.Bank.wrote t i c.args.s zeros) _ _ _ c.loop-slot.invariant.1,
)

pub returns : goal.returns
returns g c =
    let e : c.loop-slot.slot ≡ c.args.n = omega arith in
    record { zeroed = subst (λ (x : ℕ). Steps x (λ i. Moved (λ a b. Written a c.args.s zeros b) i) (members_of (g.B.Bank.meaning (g.B.Bank.state c.args.bank.now))) (members_of (g.B.Bank.meaning (g.B.Bank.state c.loop-slot.bank)))) e c.loop-slot.invariant.0; exact = c.loop-slot.invariant.1 ∙ ap (λ (x : ℕ). in_turn (λ t i. g.B.Bank.wrote t i c.args.s zeros) x (g.B.Bank.state c.args.bank.now)) e }
