use Rattle.std.proofs.Common.{refl, ap}
use Rattle.history.specs.Calls.Answer.{number}
use Rattle.runs.proofs.Going.{goes_by}
use Rattle.runs.proofs.any_volume.VolumeAnyVolume.margin.Goals as goal

pub returns-clause-makes : goal.returns-clause-makes
returns-clause-makes g c = record { answer = ap number c.margin.ensures.value; changes = (refl, refl) }

pub returns-clause-goes : goal.returns-clause-goes
returns-clause-goes g c = goes_by _ _ _ _ _ (returns-clause-makes g c) refl
