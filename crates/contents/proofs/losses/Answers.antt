use Rattle.contents.proofs.Losing.{losses}
use Rattle.contents.proofs.losses.Goals as goal

pub returns : goal.returns
returns c = record { stands = losses }
