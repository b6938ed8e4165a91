use Rattle.std.proofs.Common.{refl, ap}
use Rattle.history.specs.Calls.{answered}
use Rattle.history.specs.Calls.Answer.{order}
use Rattle.volume.specs.Slots.{members_in}
use Rattle.runs.proofs.Going.{goes_by, order_slot}
use Rattle.runs.proofs.any_volume.VolumeAnyVolume.open.Goals as goal

pub returns-clause-makes : goal.returns-clause-makes
returns-clause-makes g c = record { answer = ap (answered order) c.open.ensures.answered; changes = (ap (members_in g.B.Bank) c.open.ensures.bank, c.open.ensures.records) }

pub returns-clause-goes : goal.returns-clause-goes
returns-clause-goes g c = goes_by _ _ _ _ _ (returns-clause-makes g c) refl

pub returns-clause-order : goal.returns-clause-order
returns-clause-order g c = order_slot c.open.result _ c.args.slot c.open.ensures.answered
