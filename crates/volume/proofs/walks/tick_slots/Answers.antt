use Rattle.std.proofs.Common.{◌∙◌}
use Rattle.contents.proofs.Walks.{steps_none, steps_more}
use Rattle.volume.proofs.Walking.{ticked_moved, turn_none, turn_more}
use Rattle.volume.proofs.walks.tick_slots.Goals as goal

pub loop-slot-init : goal.loop-slot-init
loop-slot-init g c = (steps_none _ _, turn_none _ _)

pub loop-slot-preserved : goal.loop-slot-preserved
loop-slot-preserved g c = (
  steps_more _ _ _ _ _ c.loop-slot.invariant.0 (ticked_moved _ _ _ c.tick.ensures.after),
  c.tick.ensures.exact ∙ turn_more g.B.Bank.ticked _ _ _ c.loop-slot.invariant.1,
)
