use Rattle.member.specs.RunsLemmas.{rest_kept}
use Rattle.member.proofs.image.rest_kept.Goals as goal

pub returns : goal.returns
returns c = record { stands = rest_kept }
