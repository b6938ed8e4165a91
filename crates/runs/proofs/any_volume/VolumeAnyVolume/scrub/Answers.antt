use Rattle.std.proofs.Common.{refl, ap}
use Rattle.history.specs.Calls.{answered}
use Rattle.history.specs.Calls.Answer.{counts}
use Rattle.runs.proofs.Going.{records_same, goes_by}
use Rattle.runs.proofs.any_volume.VolumeAnyVolume.scrub.Goals as goal

pub returns-clause-makes : goal.returns-clause-makes
returns-clause-makes g c = record { answer = ap (answered (λ x. counts x.0 x.1 x.2)) c.scrub.ensures.answered; changes = (c.scrub.ensures.changes, records_same c.args.self.now c.scrub.new.self c.scrub.ensures.kept.table) }

pub returns-clause-goes : goal.returns-clause-goes
returns-clause-goes g c = goes_by _ _ _ _ _ (returns-clause-makes g c) refl
