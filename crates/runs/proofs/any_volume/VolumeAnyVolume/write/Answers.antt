use Rattle.std.proofs.Common.{refl, ap}
use Rattle.history.specs.Calls.{answered}
use Rattle.history.specs.Calls.Call.{write}
use Rattle.history.specs.Calls.Answer.{number}
use Rattle.runs.proofs.Going.{records_same, given, goes}
use Rattle.runs.proofs.any_volume.VolumeAnyVolume.write.Goals as goal

pub returns-clause-makes : goal.returns-clause-makes
returns-clause-makes g c = record { answer = ap (answered number) c.write.ensures.answered; changes = (c.write.ensures.changes, records_same c.args.self.now c.write.new.self c.write.ensures.kept.table) }

pub returns-clause-goes : goal.returns-clause-goes
returns-clause-goes g c = goes _ _ _ (write c.args.block c.args.bytes.now) _ (given c.args.block c.args.bytes.now (record { long = refl; bytes = λ i. (c.type_inv.bytes i).fits })) (λ _. returns-clause-makes g c)
