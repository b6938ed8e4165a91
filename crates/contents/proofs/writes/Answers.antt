use Rattle.contents.proofs.Writing.{writes}
use Rattle.contents.proofs.writes.Goals as goal

pub returns : goal.returns
returns c = record { stands = writes }
