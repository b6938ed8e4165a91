-- How many slots and stripes a volume has.
use Rattle.std.specs.Prelude.{ℕ, ◌-◌, ◌<◌, ◌≤◌, Bool, cond, ◌&&◌, nat_le}
use Rattle.code.specs.Codes.{Coding}
use Rattle.member.specs.Meaning.{most_blocks}
use Rattle.contents.specs.Shapes.{Shape, shape_of, fit}
use Rattle.volume.specs.declared.size.Size.{Size}

-- n slots and S stripes fit a code of the limit w, and there are not more stripes than a member can have blocks
abbrev pub settled : ℕ → ℕ → ℕ → Bool
settled w n S = fit n w S && nat_le S most_blocks

-- the size of a volume: what it was formatted with if that is settled, else nothing
abbrev pub size_of : ℕ → Size → Size
size_of w z = record { slots = cond (settled w z.slots z.stripes) z.slots 0; stripes = cond (settled w z.slots z.stripes) z.stripes 0 }

-- what holds of such a size, with a code of the limit w: the slots fit it, there are not more stripes than a member can have blocks, and there
-- are slots and stripes, or neither
pub record Fitting (w : ℕ) (z : Size) : Type 0 where
  pub reach : z.slots - 2 ≤ w
  pub most : z.slots ≤ 18
  pub few : z.stripes ≤ most_blocks
  pub wide : 0 < z.stripes → 4 ≤ z.slots
  pub long : 0 < z.slots → 0 < z.stripes

-- the shape of a volume of this size
abbrev pub shape_at : Coding → (slot column : ℕ → ℕ → ℕ → ℕ) → Size → Shape
shape_at C slot column z = shape_of C slot column z.slots z.stripes
