use Rattle.std.proofs.Common.{refl, ap, ◌∙◌, add-one, arith}
use Rattle.field.specs.Field.{shifted}
use Rattle.field.proofs.Powers.{shift_by}
use Rattle.field.proofs.Terms.{doubled_none, doubled_more, doubled_all}
use Rattle.galois.proofs.scaling.terms.Goals as goal

pub loop-term-init : goal.loop-term-init
unfolding shift_by
loop-term-init c = record { so_far = doubled_none c.args.a _ refl; next = refl }

pub loop-term-preserved : goal.loop-term-preserved
unfolding shift_by
loop-term-preserved c = record {
  so_far = doubled_more c.args.a c.loop-term.term-items c.loop-term.term-index c.loop-term.next (omega (arith, c.loop-term.invariant.so_far.len)) c.loop-term.invariant.next c.loop-term.invariant.so_far;
  next = rw add-one (c.doubled-next.ensures.value ∙ ap shifted c.loop-term.invariant.next);
}

pub returns : goal.returns
returns c = record { value = doubled_all c.args.a c.loop-term.term-items c.loop-term.term-index (omega arith) c.loop-term.invariant.so_far }
