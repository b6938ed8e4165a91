-- The records of the slots: which is being rebuilt, and how far each is rebuilt.
use Rattle.std.specs.Prelude.{ℕ, ◌+◌, Bool, true, false, cond, Ok, Err, Result, ◌==◌, nat_lt}
use Rattle.contents.specs.declared.SlotState.{SlotState}
use Rattle.contents.specs.declared.SlotState.TheVariants.{Idle, Open}
use Rattle.contents.specs.declared.SlotEvent.{SlotEvent}
use Rattle.contents.specs.declared.SlotEvent.TheVariants.{Replaced, Opened, Stepped, Closed}
use Rattle.contents.specs.declared.SlotRecord.{SlotRecord}
use Rattle.contents.specs.Columns.{Frontiers}
use Rattle.contents.specs.Refusals.{Told, plain}

-- the record of each slot
abbrev pub Records : Type 0
Records = ℕ → SlotRecord

abbrev pub frontiers : Records → Frontiers
frontiers R i = (R i).frontier

abbrev pub idle_at : ℕ → SlotRecord
idle_at f = record { state = Idle; frontier = f }

abbrev pub open_at : ℕ → SlotRecord
open_at f = record { state = Open; frontier = f }

abbrev pub is_open : SlotState → Bool
is_open Idle = false
is_open Open = true

-- x in the place of one slot's record, and every other slot's kept
abbrev pub with_record : Records → ℕ → SlotRecord → Records
with_record R i x j = cond (j == i) x (R j)

-- ---- what an event makes of a slot, of a volume with S stripes

-- A replaced slot has nothing of the volume in its member. A rebuild begins only where a stripe is left, and each step of it takes the
-- frontier one further. An event that is refused leaves the record.
abbrev pub after_by : ℕ → SlotState → ℕ → SlotEvent → SlotRecord
after_by S Idle f Replaced = idle_at 0
after_by S Idle f Opened = cond (nat_lt f S) (open_at f) (idle_at f)
after_by S Idle f Stepped = idle_at f
after_by S Idle f Closed = idle_at f
after_by S Open f Replaced = open_at f
after_by S Open f Opened = open_at f
after_by S Open f Stepped = cond (nat_lt f S) (open_at (f + 1)) (open_at f)
after_by S Open f Closed = idle_at f

abbrev pub slot_after : ℕ → SlotRecord → SlotEvent → SlotRecord
slot_after S r e = after_by S r.state r.frontier e

-- The frontier after it; or 6 where the slot is open, 7 where no stripe is left, 8 where it is not open.
abbrev pub answer_by : ℕ → SlotState → ℕ → SlotEvent → Result ℕ Told
answer_by S Idle f Replaced = Ok 0
answer_by S Idle f Opened = cond (nat_lt f S) (Ok f) (Err (plain 7))
answer_by S Idle f Stepped = Err (plain 8)
answer_by S Idle f Closed = Err (plain 8)
answer_by S Open f Replaced = Err (plain 6)
answer_by S Open f Opened = Err (plain 6)
answer_by S Open f Stepped = cond (nat_lt f S) (Ok (f + 1)) (Err (plain 7))
answer_by S Open f Closed = Ok f

abbrev pub slot_answer : ℕ → SlotRecord → SlotEvent → Result ℕ Told
slot_answer S r e = answer_by S r.state r.frontier e
