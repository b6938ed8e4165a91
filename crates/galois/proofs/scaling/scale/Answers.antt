use Rattle.std.proofs.Common.{◌≡◌, map, get_or, sym, ap, ◌∙◌, arith}
use lib.ListN.{length-map}
use Rattle.std.proofs.lemmas.List.{ext_get_or}
use Rattle.code.proofs.Loops.{half_more}
use Rattle.field.specs.Field.{times}
use Rattle.field.specs.Terms.{summed}
use Rattle.field.proofs.Laws.{get_or_times}
use Rattle.field.proofs.Terms.{times_summed}
use Rattle.galois.proofs.scaling.scale.Goals as goal

pub loop-x-preserved : goal.loop-x-preserved
loop-x-preserved c =
    let a = c.args.a in
    let i = c.loop-x.x-index in
    let b = c.loop-x.buffer in
    let byte : c.scaled.result ≡ get_or (map (times a) c.args.buffer.now) i 0 =
    c.scaled.ensures.value ∙ ap (λ ts. summed ts (get_or b i 0)) c.terms-t.ensures.value ∙ times_summed a (get_or b i 0)
    ∙ ap (times a) (c.loop-x.invariant.rest i (omega arith)) ∙ sym (get_or_times a c.args.buffer.now i) in
    half_more _ c.args.buffer.now b i c.scaled.result (omega arith) byte c.loop-x.invariant

pub returns : goal.returns
returns c =
    let old = c.args.buffer.now in
    let f = times c.args.a in
    record {
      after = ext_get_or 0 c.loop-x.buffer (map f old) (c.loop-x.invariant.len ∙ sym (length-map old f)) (λ k l. c.loop-x.invariant.done k (omega arith));
    }
