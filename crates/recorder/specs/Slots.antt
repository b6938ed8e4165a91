-- The slots of the recorder for a script xs.
use Rattle.std.specs.Prelude.{ℕ, List, replicate, vec_items}
use Rattle.code.specs.Codes.{Coding}
use Rattle.layout.specs.Placing.{rotated, unrotated}
use Rattle.member.specs.Meaning.{Meaning}
use Rattle.member.specs.Runs.{cell_meaning, cell_zeros, image_meaning}
use Rattle.member.specs.declared.cell.Cell.{Cell}
use Rattle.member.specs.declared.image.Image.{Image}
use Rattle.faultplan.specs.Layers.{layered}
use Rattle.faulty.specs.declared.FaultLayer.{FaultLayer}
use Rattle.remap.specs.Places.{table_of, unmoved, kept_back}
use Rattle.remap.specs.Remapped.{remapped}
use Rattle.remap.specs.declared.Remap.{Remap}
use Rattle.bank.specs.Slots as bank
use Rattle.bank.specs.Chains.{linked_slots, no_members}
use Rattle.bank.specs.declared.chain.Link.{Link}
use Rattle.contents.specs.Columns.{Members}
use Rattle.contents.specs.Shapes.{Shape, formed}
use Rattle.script.specs.Format.{entry_count}
use Rattle.volume.specs.Slots.{members_of}
use Rattle.recorder.specs.Planned.{planned}

-- ---- what the slots are to mean

-- slot i over a member: two spares over the faults that are planned for the slot
abbrev pub slot_meaning : Meaning → List ℕ → ℕ → Meaning
slot_meaning m xs i = remapped (unmoved (kept_back 2 m.count)) (layered (planned xs i (entry_count xs)) m)

-- a cell, and an image of eight blocks of zeros
abbrev pub cell_slot : List ℕ → ℕ → Meaning
cell_slot xs i = slot_meaning (cell_meaning cell_zeros) xs i

abbrev pub image_slot : List ℕ → ℕ → Meaning
image_slot xs i = slot_meaning (image_meaning (replicate 4096 0)) xs i

-- cells in the slots 0 to 2, images in the slots 3 to 5
abbrev pub image_slots : List ℕ → bank.Slots
image_slots xs = linked_slots (image_slot xs 3) (linked_slots (image_slot xs 4) (linked_slots (image_slot xs 5) no_members))

abbrev pub recorder_slots : List ℕ → bank.Slots
recorder_slots xs = linked_slots (cell_slot xs 0) (linked_slots (cell_slot xs 1) (linked_slots (cell_slot xs 2) (image_slots xs)))

-- the members before formatting, and the shape of the volume that they make with the code C
abbrev pub blank_members : List ℕ → Members
blank_members xs = members_of (recorder_slots xs)

abbrev pub recorder_shape : Coding → List ℕ → Shape
recorder_shape C xs = formed C rotated unrotated 6 (blank_members xs)

-- ---- what values of the program mean

abbrev pub stack_means : {M : Type 0} → (M → Meaning) → Remap (FaultLayer M) → Meaning
stack_means mean x = remapped (table_of x.moves) (layered x.below.plan (mean x.below.below))

abbrev pub cell_means : Remap (FaultLayer Cell) → Meaning
cell_means x = stack_means (λ c. cell_meaning c.bytes) x

abbrev pub image_means : Remap (FaultLayer Image) → Meaning
image_means x = stack_means (λ i. image_meaning (vec_items i.buffer)) x

abbrev pub chain_means : {A B : Type 0} → (A → Meaning) → (B → bank.Slots) → Link A B → bank.Slots
chain_means m ms x = linked_slots (m x.first) (ms x.rest)
