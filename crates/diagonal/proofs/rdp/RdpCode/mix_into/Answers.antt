use Rattle.std.proofs.Common.{◌≡◌, ℕ, ap, ◌∙◌, ap₂, rules}
use Rattle.code.specs.Blocks.{◌⊕◌}
use Rattle.prime.specs.Rows.{shifted}
use Rattle.prime.specs.Diagonals.{rdp}
use Rattle.prime.proofs.Mixings.{rdp_mixed}
use Rattle.diagonal.specs.Facts.{sizes_of}
use Rattle.diagonal.proofs.rdp.RdpCode.mix_into.Goals as goal

pub returns-clause-after : goal.returns-clause-after
returns-clause-after c =
    let g = c.args.self.now.grid in
    let b = c.in_ok-block.block.now in
    let a = c.in_ok-into.into.now in
    let block : b ≡ c.args.block.now = search (rules, c.as_array.ensures.cases, c.in_ok-block.ensures.ok_part) in
    let into : a ≡ c.args.into.now = search (rules, c.as_mut_array.ensures.cases, c.in_ok-into.ensures.ok_part) in
    rdp_mixed g.prime g.width 512 (sizes_of g) c.args.j b a c.add_shifted.new.into c.add_shifted-2.new.into
    (c.add_shifted.ensures.after ∙ ap (λ (s : ℕ). a ⊕ shifted g.prime g.width s b) c.fold.ensures.value) c.add_shifted-2.ensures.after
    ∙ ap₂ (λ x y. x ⊕ (rdp g.prime g.width).mix c.args.j y) into block
