use Rattle.contents.proofs.Keeping.{scrubs}
use Rattle.contents.proofs.scrubs.Goals as goal

pub returns : goal.returns
returns c = record { stands = scrubs }
