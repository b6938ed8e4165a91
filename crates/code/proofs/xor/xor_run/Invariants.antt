use Rattle.std.proofs.Common.{get_or}
use lib.Bits.{bit_xor}
use Rattle.code.proofs.Loops.{Half}
use Rattle.code.proofs.xor.xor_run.Given as goal

abbrev pub invariant-loop-i : goal.invariant-loop-i
invariant-loop-i l = Half (λ k. bit_xor (get_or l.initial.into k 0) (get_or l.from k 0)) l.initial.into l.into l.i
