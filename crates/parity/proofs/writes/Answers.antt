use Rattle.parity.proofs.Changes.{writes}
use Rattle.parity.proofs.writes.Goals as goal

pub returns : goal.returns
returns c = record { stands = writes }
