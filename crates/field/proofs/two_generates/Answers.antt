use Rattle.field.proofs.Logs.{generated}
use Rattle.field.proofs.two_generates.Goals as goal

pub returns : goal.returns
returns c = record { theorem = generated }
