-- The size that the parts of a volume make.
use Rattle.std.specs.Prelude.{ℕ, cond}
use Rattle.contents.specs.Columns.{Members}
use Rattle.contents.specs.Shapes.{fit, smallest}
use Rattle.volume.specs.declared.size.Size.{Size}

-- n members M and a code of the limit w: all slots and the smallest count if they fit, else nothing
abbrev pub parts_size : ℕ → ℕ → Members → Size
parts_size w n M = record { slots = cond (fit n w (smallest M n)) n 0; stripes = cond (fit n w (smallest M n)) (smallest M n) 0 }
