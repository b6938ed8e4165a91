use Rattle.parity.proofs.Changes.{deltas}
use Rattle.parity.proofs.deltas.Goals as goal

pub returns : goal.returns
returns c = record { stands = deltas }
