use Rattle.contents.proofs.Rebuilding.{rebuilds}
use Rattle.contents.proofs.rebuilds.Goals as goal

pub returns : goal.returns
returns c = record { stands = rebuilds }
