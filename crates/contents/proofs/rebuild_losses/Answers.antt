use Rattle.contents.proofs.Rebuilding.{rebuild_losses}
use Rattle.contents.proofs.rebuild_losses.Goals as goal

pub returns : goal.returns
returns c = record { stands = rebuild_losses }
