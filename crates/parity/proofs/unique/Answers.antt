use Rattle.parity.proofs.Solving.{unique}
use Rattle.parity.proofs.unique.Goals as goal

pub returns : goal.returns
returns c = record { stands = unique }
