use Rattle.prime.proofs.Laws.{both_lawful}
use Rattle.prime.proofs.diagonal_codes_are_lawful.Goals as goal

pub returns : goal.returns
returns c = record { lawful = both_lawful }
