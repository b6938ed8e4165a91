use Rattle.std.proofs.Common.{sym, ◌∙◌, arith}
use Rattle.field.proofs.Terms.{summed_more, summed_all}
use Rattle.galois.proofs.scaling.scaled.Goals as goal

pub loop-term-preserved : goal.loop-term-preserved
loop-term-preserved c = summed_more c.args.t.now c.loop-term.term-index c.loop-term.sum c.loop-term.digits (omega arith) ∙ c.loop-term.invariant

pub returns : goal.returns
returns c = record {
  value = sym (summed_all c.args.t.now c.loop-term.term-index c.loop-term.sum c.loop-term.digits (omega arith)) ∙ c.loop-term.invariant;
}
