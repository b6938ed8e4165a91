use Rattle.std.proofs.Common.{◌≡◌, ◌∙◌, ap₂, rules}
use Rattle.code.specs.Blocks.{◌⊕◌}
use Rattle.code.proofs.Blocks.{onto_same}
use Rattle.code.proofs.xor.xor_into.Goals as goal

pub returns-clause-after : goal.returns-clause-after
returns-clause-after c =
    let b = c.in_ok-block.block.now in
    let a = c.in_ok-into.into.now in
    let block : b ≡ c.args.block.now = search (rules, c.as_array.ensures.cases, c.in_ok-block.ensures.ok_part) in
    let into : a ≡ c.args.into.now = search (rules, c.as_mut_array.ensures.cases, c.in_ok-into.ensures.ok_part) in
    c.xor_run.ensures.after ∙ onto_same a b (search (rules, c.as_array.ensures.cases, c.in_ok-block.ensures.ok_part, c.as_mut_array.ensures.cases, c.in_ok-into.ensures.ok_part)) ∙ ap₂ ◌⊕◌ into block
