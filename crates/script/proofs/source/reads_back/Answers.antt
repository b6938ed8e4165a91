use Rattle.script.proofs.Encoding.{reads_back}
use Rattle.script.proofs.source.reads_back.Goals as goal

pub returns : goal.returns
returns c = record { stands = reads_back }
