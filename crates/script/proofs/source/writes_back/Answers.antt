use Rattle.script.proofs.Encoding.{writes_back}
use Rattle.script.proofs.source.writes_back.Goals as goal

pub returns : goal.returns
returns c = record { stands = writes_back }
