use Rattle.std.proofs.Common.{map, get_or}
use lib.Bits.{bit_xor}
use Rattle.code.proofs.Loops.{Half}
use Rattle.field.specs.Field.{times}
use Rattle.galois.proofs.scaling.add_scaled.Given as goal

abbrev pub invariant-loop-i : goal.invariant-loop-i
invariant-loop-i l = Half (λ k. bit_xor (get_or l.initial.into k 0) (get_or (map (times l.a) l.block) k 0)) l.initial.into l.into l.i
