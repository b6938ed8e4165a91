use Rattle.std.proofs.Common.{refl, ap}
use Rattle.history.specs.Calls.{answered}
use Rattle.history.specs.Calls.Call.{step}
use Rattle.history.specs.Calls.Answer.{number}
use Rattle.runs.proofs.Going.{no_bytes, goes}
use Rattle.runs.proofs.any_volume.VolumeAnyVolume.step.Goals as goal

pub returns-clause-makes : goal.returns-clause-makes
returns-clause-makes g c = λ room. record { answer = ap (answered number) (c.step.ensures.answered room); changes = c.step.ensures.changes room }

pub returns-clause-goes : goal.returns-clause-goes
returns-clause-goes g c = goes _ _ _ (step c.args.order.now.slot) _ (no_bytes _ refl) (returns-clause-makes g c)
