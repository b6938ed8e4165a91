use Rattle.contents.proofs.Rebuilding.{replaces}
use Rattle.contents.proofs.replaces.Goals as goal

pub returns : goal.returns
returns c = record { stands = replaces }
