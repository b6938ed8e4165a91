use Rattle.history.proofs.Promises.{every_run}
use Rattle.history.proofs.every_run.Goals as goal

pub returns : goal.returns
returns c = record { stands = every_run }
