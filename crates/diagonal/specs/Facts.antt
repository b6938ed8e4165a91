-- What a grid's facts give: its sizes, and the laws of a code over blocks of 512 bytes.
use Rattle.std.specs.Prelude.{ℕ, ◌-◌, ◌*◌}
use Rattle.std.proofs.Common.{lit<, subst}
use Rattle.code.specs.Codes.{Coding, Lawful}
use Rattle.prime.proofs.Sizes.{Sizes, sizes}
use Rattle.diagonal.specs.declared.Grid.{Grid}

pub sizes_of : (g : Grid) → Sizes g.prime g.width 512
sizes_of g = sizes g.prime g.width 512 g.indivisible (lit< tt) g.whole

pub lawful_of : (g : Grid) {C : Coding} → Lawful ((g.prime - 1) * g.width) C → Lawful 512 C
lawful_of g {C} laws = subst (λ (n : ℕ). Lawful n C) g.whole laws
