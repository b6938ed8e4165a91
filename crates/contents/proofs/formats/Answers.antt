use Rattle.contents.proofs.Keeping.{formats}
use Rattle.contents.proofs.formats.Goals as goal

pub returns : goal.returns
returns c = record { stands = formats }
