use Rattle.std.proofs.Common.{◌≡◌, length, map, get_or, sym, ap, ◌∙◌, ap₂, arith}
use lib.Bits.{bit_xor}
use lib.ListN.{length-map}
use Rattle.code.proofs.Blocks.{onto_same}
use Rattle.code.proofs.Loops.{half_more, half_onto}
use Rattle.field.specs.Field.{times}
use Rattle.field.specs.Terms.{summed}
use Rattle.field.proofs.Laws.{get_or_times}
use Rattle.field.proofs.Terms.{times_summed}
use Rattle.galois.proofs.scaling.add_scaled.Goals as goal

pub loop-i-preserved : goal.loop-i-preserved
loop-i-preserved c =
    let a = c.args.a in
    let i = c.loop-i.i in
    let b = c.args.block.now in
    let byte : c.scaled.result ≡ get_or (map (times a) b) i 0 =
    c.scaled.ensures.value ∙ ap (λ ts. summed ts (get_or b i 0)) c.terms-t.ensures.value ∙ times_summed a (get_or b i 0) ∙ sym (get_or_times a b i) in
    half_more _ c.args.into.now c.loop-i.into i _ (omega arith) (ap₂ bit_xor (c.loop-i.invariant.rest i (omega arith)) byte) c.loop-i.invariant

pub returns : goal.returns
returns c =
    let b = map (times c.args.a) c.args.block.now in
    let long : length b ≡ 512 = length-map c.args.block.now (times c.args.a) ∙ c.told-block in
    record {
      after = half_onto c.args.into.now b c.loop-i.into c.loop-i.i (omega (arith, c.told-into)) c.loop-i.invariant ∙ onto_same c.args.into.now b (omega (arith, c.told-into));
    }
