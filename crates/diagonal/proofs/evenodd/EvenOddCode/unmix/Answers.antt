use Rattle.std.proofs.Common.{◌≡◌, ℕ, replicate, refl, ap, ◌∙◌, arith, rules}
use Rattle.code.specs.Blocks.{◌⊕◌}
use Rattle.prime.specs.Rows.{everywhere}
use Rattle.prime.specs.Diagonals.{evenodd}
use Rattle.prime.proofs.Repeats.{byte_of_zeros}
use Rattle.prime.proofs.Mixings.{evenodd_unmixed}
use Rattle.diagonal.specs.Facts.{sizes_of}
use Rattle.diagonal.proofs.evenodd.EvenOddCode.unmix.Goals as goal

pub overflow_add-grid : goal.overflow_add-grid
overflow_add-grid c = omega (arith, (sizes_of c.args.self.now.grid).low)

pub returns-clause-after : goal.returns-clause-after
returns-clause-after c =
    let g = c.args.self.now.grid in
    let b = c.in_ok-buffer.buffer.now in
    let same : b ≡ c.args.buffer.now = search (rules, c.as_mut_array.ensures.cases, c.in_ok-buffer.ensures.ok_part) in
    evenodd_unmixed g.prime g.width 512 (sizes_of g) c.args.j b (replicate 512 0) c.add_shifted.new.into c.add_row_everywhere.new.into refl (byte_of_zeros 512) c.add_shifted.ensures.after
    (c.add_row_everywhere.ensures.after ∙ ap (λ (r : ℕ). c.add_shifted.new.into ⊕ everywhere g.prime g.width r b) c.fold.ensures.value)
    ∙ ap ((evenodd g.prime g.width).unmix c.args.j) same
