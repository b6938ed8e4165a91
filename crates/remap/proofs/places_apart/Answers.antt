use Rattle.remap.proofs.Lowest.{places_apart}
use Rattle.remap.proofs.places_apart.Goals as goal

pub returns : goal.returns
returns c = record { stands = places_apart }
