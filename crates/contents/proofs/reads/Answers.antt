use Rattle.contents.proofs.Reading.{reads}
use Rattle.contents.proofs.reads.Goals as goal

pub returns : goal.returns
returns c = record { stands = reads }
