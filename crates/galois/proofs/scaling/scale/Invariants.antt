use Rattle.std.proofs.Common.{map, get_or}
use Rattle.code.proofs.Loops.{Half}
use Rattle.field.specs.Field.{times}
use Rattle.galois.proofs.scaling.scale.Given as goal

abbrev pub invariant-loop-x : goal.invariant-loop-x
invariant-loop-x l = Half (λ k. get_or (map (times l.a) l.initial.buffer) k 0) l.initial.buffer l.buffer l.x-index
