use Rattle.std.proofs.Common.{refl}
use Rattle.prime.proofs.Primes.{prime_17}
use Rattle.diagonal.proofs.Grid.of_17.Goals as goal

pub new-requires : goal.new-requires
new-requires c = record { indivisible = prime_17; odd = refl; whole = refl }
