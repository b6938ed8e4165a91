use Rattle.std.proofs.Common.{◌<◌, arith}
use Rattle.contents.proofs.Masks.{loss_none}
use Rattle.volume.proofs.Surveying.{loss_room, loss_step, bit_is}
use Rattle.volume.proofs.grid.Grid.loss.Goals as goal

pub loop-slot-init : goal.loop-slot-init
loop-slot-init g c = loss_none _ _ _

pub with_status-loss-requires : goal.with_status-loss-requires
with_status-loss-requires g c =
    let h : c.loop-slot.slot < 18 = omega (arith, c.args.self.now.fitting.most) in
    record { room = loss_room _ _ _ _ _ _ c.loop-slot.invariant h (bit_is c.loop-slot.slot h) }

pub loop-slot-preserved : goal.loop-slot-preserved
loop-slot-preserved g c =
    let h : c.loop-slot.slot < 18 = omega (arith, c.args.self.now.fitting.most) in
    loss_step _ _ _ _ _ _ _ _ c.status.ensures.value (bit_is c.loop-slot.slot h) c.loop-slot.invariant c.with_status-loss.ensures.value
