use Rattle.std.proofs.Common.{◌%◌, get_or, ap, ◌∙◌, arith}
use Rattle.std.proofs.lemmas.List.FromFn.{get_or-map-range_with_len}
use Rattle.field.specs.Field.{power}
use Rattle.field.proofs.Powers.{power_reduced}
use Rattle.galois.proofs.power_of.Goals as goal

pub returns : goal.returns
returns c =
    let k = c.args.k % 255 in
    record {
      value = ap (λ xs. get_or xs k 0) c.powers.ensures.value ∙ get_or-map-range_with_len power 0 255 k k 0 (omega arith) (omega arith) ∙ power_reduced c.args.k;
    }
