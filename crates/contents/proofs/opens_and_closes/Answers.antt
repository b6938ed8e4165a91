use Rattle.contents.proofs.Rebuilding.{opens, closes}
use Rattle.contents.proofs.opens_and_closes.Goals as goal

pub returns : goal.returns
returns c = record { opens = opens; closes = closes }
