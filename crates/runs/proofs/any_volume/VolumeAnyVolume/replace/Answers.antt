use Rattle.std.proofs.Common.{refl, ap}
use Rattle.history.specs.Calls.{answered}
use Rattle.history.specs.Calls.Answer.{done}
use Rattle.runs.proofs.Going.{goes_by}
use Rattle.runs.proofs.any_volume.VolumeAnyVolume.replace.Goals as goal

pub returns-clause-makes : goal.returns-clause-makes
returns-clause-makes g c = record { answer = ap (answered (λ _. done)) c.replace.ensures.answered; changes = c.replace.ensures.changes }

pub returns-clause-goes : goal.returns-clause-goes
returns-clause-goes g c = goes_by _ _ _ _ _ (returns-clause-makes g c) refl
