use Rattle.std.proofs.Common.{◌≡◌}
use Rattle.field.proofs.Powers.{shift_by}
use Rattle.field.proofs.Terms.{Doubled}
use Rattle.galois.proofs.scaling.terms.Given as goal

abbrev pub invariant-loop-term : goal.invariant-loop-term
invariant-loop-term l = record { so_far : Doubled l.a l.term-items l.term-index; next : l.next ≡ shift_by l.term-index l.a }
