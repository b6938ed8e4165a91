use Rattle.std.proofs.Common.{◌≡◌, map, sym, ap, ◌∙◌, arith, rules}
use Rattle.field.specs.Field.{times}
use Rattle.field.specs.Mixing.{unmixed}
use Rattle.field.proofs.Logs.{inverse_power}
use Rattle.galois.proofs.PqCode.unmix.Goals as goal

pub returns-clause-after : goal.returns-clause-after
unfolding unmixed
returns-clause-after c =
    let same : c.in_ok-buffer.buffer.now ≡ c.args.buffer.now = search (rules, c.as_mut_array.ensures.cases, c.in_ok-buffer.ensures.ok_part) in
    c.scale.ensures.after ∙ ap (map (times c.power_of.result)) same
    ∙ ap (λ x. map (times x) c.args.buffer.now) (c.power_of.ensures.value ∙ sym (inverse_power c.args.j (omega (arith, c.in_ok-check_column.ensures.below))))
