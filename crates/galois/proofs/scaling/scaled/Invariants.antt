use Rattle.std.proofs.Common.{◌≡◌, drop}
use lib.Bits.{bit_xor}
use Rattle.field.specs.Terms.{summed}
use Rattle.galois.proofs.scaling.scaled.Given as goal

abbrev pub invariant-loop-term : goal.invariant-loop-term
invariant-loop-term l = bit_xor l.sum (summed (drop l.term-index l.t) l.digits) ≡ summed l.t l.b
