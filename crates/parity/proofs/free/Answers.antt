use Rattle.parity.proofs.Freedom.{free_column}
use Rattle.parity.proofs.free.Goals as goal

pub returns : goal.returns
returns c = record { stands = free_column }
