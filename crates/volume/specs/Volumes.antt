-- A volume's shape, members and frontiers, by its parts.
use Rattle.std.specs.Prelude.{◌≡◌, ℕ, Ok, Err, Result}
use Rattle.bank.specs.declared.Bank.{Ghosts as Bank}
use Rattle.code.specs.declared.Code.{Ghosts as Code}
use Rattle.layout.specs.declared.Layout.{Ghosts as Layout}
use Rattle.contents.specs.Columns.{Members, Frontiers}
use Rattle.contents.specs.Shapes.{Shape}
use Rattle.volume.specs.declared.volume.Volume.{Volume}
use Rattle.volume.specs.Sizes.{size_of, shape_at}
use Rattle.volume.specs.Slots.{members_in, frontier_of, records_of}
use Rattle.contents.specs.Records.{Records}
use Rattle.contents.specs.Refusals.{Told, told}
use Rattle.contents.specs.declared.Refusal.{Refusal}
use Rattle.volume.specs.declared.volume.rebuilds.Order.{Order}

-- by the records K, L and B of its code, its layout and its bank
abbrev pub shape : {C L B : Type 0} → (K : Code C) → Layout L → Volume C L B → Shape
shape K L v = shape_at (K.coding v.code) (L.slot v.layout) (L.column v.layout) (size_of (K.coding v.code).limit v.size)

abbrev pub members : {C L B : Type 0} → Bank B → Volume C L B → Members
members B v = members_in B v.bank

abbrev pub frontiers : {C L B : Type 0} → Volume C L B → Frontiers
frontiers v = frontier_of v.table.rows

abbrev pub records : {C L B : Type 0} → Volume C L B → Records
records v = records_of v.table.rows

-- what no call on a volume changes: its code, its layout and its size
pub record PartsKept {C L B : Type 0} (v w : Volume C L B) : Type 0 where
  pub code : w.code ≡ v.code
  pub layout : w.layout ≡ v.layout
  pub size : w.size ≡ v.size

-- what an order that is handed out is for: a slot; or the refusal, in numbers
abbrev pub ordered : Result Order Refusal → Result ℕ Told
ordered (Ok o) = Ok o.slot
ordered (Err e) = Err (told e)

-- what ticks, reads, writes and scrubs leave: also the slots' records
pub record Kept {C L B : Type 0} (v w : Volume C L B) : Type 0 where
  pub code : w.code ≡ v.code
  pub layout : w.layout ≡ v.layout
  pub size : w.size ≡ v.size
  pub table : w.table ≡ v.table
