use Rattle.std.proofs.Common.{◌∙◌}
use Rattle.code.specs.Blocks.{zeros}
use Rattle.contents.proofs.Walks.{steps_none, steps_more}
use Rattle.volume.specs.Turns.{in_turn}
use Rattle.volume.proofs.Walking.{turn_none, turn_more}
use Rattle.volume.proofs.walks.zero_stripes.Goals as goal

pub loop-s-init : goal.loop-s-init
loop-s-init g c = (steps_none _ _, turn_none _ _)

pub loop-s-preserved : goal.loop-s-preserved
loop-s-preserved g c = (
  steps_more _ _ _ _ _ c.loop-s.invariant.0 c.zero_stripe.ensures.zeroed,
  c.zero_stripe.ensures.exact ∙ turn_more (λ t s. in_turn (λ u i. g.B.Bank.wrote u i s zeros) c.args.n t) _ _ _ c.loop-s.invariant.1,
)
