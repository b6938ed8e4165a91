use Rattle.parity.proofs.Solving.{recovers}
use Rattle.parity.proofs.recovers.Goals as goal

pub returns : goal.returns
returns c = record { stands = recovers }
