use Rattle.contents.proofs.Keeping.{ticks}
use Rattle.contents.proofs.ticks.Goals as goal

pub returns : goal.returns
returns c = record { stands = ticks }
