use Rattle.worked.proofs.Computed.{worked_cases}
use Rattle.worked.proofs.worked_cases.Goals as goal

pub returns : goal.returns
returns c = record { stands = worked_cases }
