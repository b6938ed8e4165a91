use Rattle.std.proofs.Common.{◌-◌, get_or, ap, ◌∙◌, arith}
use Rattle.std.proofs.lemmas.List.FromFn.{get_or-map-range_with_len}
use Rattle.field.specs.Field.{log}
use Rattle.galois.proofs.log_of.Goals as goal

pub returns : goal.returns
returns c =
    let b = c.args.b in
    record {
      value = ap (λ xs. get_or xs (b - 1) 0) c.logs.ensures.value ∙ get_or-map-range_with_len log 1 255 (b - 1) b 0 (omega arith) (omega arith);
    }
