use Rattle.contents.proofs.Forming.{smallest_count}
use Rattle.contents.proofs.smallest_count.Goals as goal

pub returns : goal.returns
returns c = record { stands = smallest_count }
