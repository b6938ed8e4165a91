-- What a grid tells of the columns that lie in the slots of a bank.
use Rattle.std.specs.Prelude.{ℕ, ◌-◌, List, Option}
use Rattle.bank.specs.Slots.{Slots}
use Rattle.code.specs.declared.Code.{Ghosts as Code}
use Rattle.layout.specs.declared.Layout.{Ghosts as Layout}
use Rattle.parity.specs.Ways.{recovered}
use Rattle.contents.specs.declared.Loss.{Loss}
use Rattle.contents.specs.Columns.{Frontiers, columns, loss_of}
use Rattle.contents.specs.Shapes.{Shape}
use Rattle.volume.specs.declared.grid.Grid.{Grid}
use Rattle.volume.specs.Sizes.{shape_at}
use Rattle.volume.specs.Slots.{members_of, frontier_of}

-- the shape, by the records K and J of the code and the layout
abbrev pub grid_shape : {C L : Type 0} → (K : Code C) → Layout L → Grid C L K → Shape
grid_shape K J x = shape_at (K.coding x.code.now) (J.slot x.layout.now) (J.column x.layout.now) x.size

-- how many data columns a stripe has
abbrev pub width : {C L : Type 0} {K : Code C} → Grid C L K → ℕ
width x = x.size.slots - 2

abbrev pub grid_frontiers : {C L : Type 0} {K : Code C} → Grid C L K → Frontiers
grid_frontiers x = frontier_of x.table.now.rows

-- the columns of stripe s
abbrev pub columns_on : {C L : Type 0} {K : Code C} → Layout L → Grid C L K → Slots → ℕ → ℕ → Option (List ℕ)
columns_on J x ms s = columns (members_of ms) (grid_frontiers x) (J.slot x.layout.now x.size.slots) s

-- what is lost of the stripe
abbrev pub loss_on : {C L : Type 0} {K : Code C} → Grid C L K → Slots → ℕ → Loss
loss_on x ms s = loss_of (members_of ms) (grid_frontiers x) x.size.slots s

-- column t of the stripe: its bytes if it is current, else what is recovered
abbrev pub recovered_on : {C L : Type 0} → (K : Code C) → Layout L → Grid C L K → Slots → ℕ → ℕ → List ℕ
recovered_on K J x ms s t = recovered (K.coding x.code.now) (width x) (columns_on J x ms s) t
