use Rattle.std.proofs.Common.{refl}
use Rattle.runs.proofs.Going.{records_same, goes_by}
use Rattle.runs.proofs.any_volume.VolumeAnyVolume.tick.Goals as goal

pub returns-clause-makes : goal.returns-clause-makes
returns-clause-makes g c = record { answer = refl; changes = (c.tick.ensures.changes, records_same c.args.self.now c.tick.new.self c.tick.ensures.kept.table) }

pub returns-clause-goes : goal.returns-clause-goes
returns-clause-goes g c = goes_by _ _ _ _ _ (returns-clause-makes g c) refl
