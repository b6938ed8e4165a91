use Rattle.std.proofs.Common.{◌≡◌, map, ap, ◌∙◌, ap₂, rules}
use Rattle.code.specs.Blocks.{◌⊕◌}
use Rattle.field.specs.Field.{times}
use Rattle.field.specs.Mixing.{mixed}
use Rattle.galois.proofs.PqCode.mix_into.Goals as goal

pub returns-clause-after : goal.returns-clause-after
unfolding mixed
returns-clause-after c =
    let block : c.in_ok-block.block.now ≡ c.args.block.now = search (rules, c.as_array.ensures.cases, c.in_ok-block.ensures.ok_part) in
    let into : c.in_ok-into.into.now ≡ c.args.into.now = search (rules, c.as_mut_array.ensures.cases, c.in_ok-into.ensures.ok_part) in
    c.add_scaled.ensures.after ∙ ap₂ ◌⊕◌ into (ap (map (times c.power_of.result)) block)
    ∙ ap (λ x. c.args.into.now ⊕ map (times x) c.args.block.now) c.power_of.ensures.value
