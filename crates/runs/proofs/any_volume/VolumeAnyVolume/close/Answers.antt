use Rattle.std.proofs.Common.{refl, ap}
use Rattle.history.specs.Calls.{answered}
use Rattle.history.specs.Calls.Answer.{number}
use Rattle.volume.specs.Slots.{members_in}
use Rattle.runs.proofs.Going.{goes_by}
use Rattle.runs.proofs.any_volume.VolumeAnyVolume.close.Goals as goal

pub returns-clause-makes : goal.returns-clause-makes
returns-clause-makes g c = record { answer = ap (answered number) c.close.ensures.answered; changes = (ap (members_in g.B.Bank) c.close.ensures.bank, c.close.ensures.records) }

pub returns-clause-goes : goal.returns-clause-goes
returns-clause-goes g c = goes_by _ _ _ _ _ (returns-clause-makes g c) refl
