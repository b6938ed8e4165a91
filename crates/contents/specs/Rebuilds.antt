-- Replacement and rebuild: what replace, open, step and close answer and change, and what holds of them. V is the shape, M the members and
-- R the slots' records before the call, N and Q those after it. Checks stand in the order in which they are made.
use Rattle.std.specs.Prelude.{◌≡◌, ℕ, ◌+◌, ◌<◌, Bool, true, false, cond, not, ◌&&◌, List, is_ok, Some, None, Ok, Err, Option, Result, nat_lt}
use Rattle.code.specs.Blocks.{block_size}
use Rattle.member.specs.Faults as member
use Rattle.member.specs.Meaning.{write_refusal}
use Rattle.member.specs.Changes.{Written, Renewed}
use Rattle.contents.specs.declared.SlotEvent.{SlotEvent}
use Rattle.contents.specs.declared.SlotEvent.TheVariants.{Replaced, Opened, Stepped, Closed}
use Rattle.contents.specs.Columns.{Members}
use Rattle.contents.specs.declared.Refusal.{Refusal}
use Rattle.contents.specs.declared.Refusal.TheVariants.{NoSuch, Length, Lost, Torn, Busy, Whole, NotOpen, Failed}
use Rattle.contents.specs.Refusals.{Told, plain, answering}
use Rattle.contents.specs.Records.{Records, frontiers, is_open, with_record, slot_after, slot_answer}
use Rattle.contents.specs.Shapes.{Shape, Valid, Roomy, lossy, recovered_at, FitsVolume}
use Rattle.contents.specs.Answers.{unless_lost}
use Rattle.contents.specs.Changes.{Moved}
use Rattle.contents.specs.Theorems.{CountsKept, TellsLoss}

-- ---- an event on slot i

-- what its record answers; `absent` where there is no such slot
abbrev pub event_outcome : Shape → Records → ℕ → SlotEvent → Told → Result ℕ Told
event_outcome V R i e absent = cond (nat_lt i V.slots) (slot_answer V.stripes (R i) e) (Err absent)

-- one slot's record is changed and every other slot's is kept
abbrev pub event_records : Shape → Records → ℕ → SlotEvent → Records
event_records V R i e = cond (nat_lt i V.slots) (with_record R i (slot_after V.stripes (R i) e)) R

-- ---- replace: 2 if there is no such slot, 6 if it is open; else its member is made fresh
abbrev pub replace_outcome : Shape → Records → ℕ → Result Unit Told
replace_outcome V R i = answering tt (event_outcome V R i Replaced (plain 2))

pub record ReplaceChanges (V : Shape) (M : Members) (R : Records) (i : ℕ) (N : Members) (Q : Records) : Type 0 where
  pub taken : is_ok (replace_outcome V R i) ≡ true → Moved Renewed i M N
  pub refused : is_ok (replace_outcome V R i) ≡ false → N ≡ M
  pub records : Q ≡ event_records V R i Replaced

-- ---- open: 2, 6, and 7 if no stripe is left; else the slot is open, and the order that is handed out is for slot i
abbrev pub open_outcome : Shape → Records → ℕ → Result ℕ Told
open_outcome V R i = answering i (event_outcome V R i Opened (plain 2))

-- ---- close by an order for slot i: 8 if there is no such slot or it is not open; else the slot is idle and its frontier is answered
abbrev pub close_outcome : Shape → Records → ℕ → Result ℕ Told
close_outcome V R i = event_outcome V R i Closed (plain 8)

-- ---- step by an order for slot i

-- slot i is one of the volume's, and open
abbrev pub open_here : Shape → Records → ℕ → Bool
open_here V R i = nat_lt i V.slots && is_open (R i).state

-- by the fault of the write to the stripe f, if there is one: 9, else the new frontier
abbrev pub rebuilt : Option member.Refusal → ℕ → Result ℕ Told
rebuilt None f = Ok (f + 1)
rebuilt (Some x) f = Err (plain 9)

-- 8 if the slot is not open in this volume, 7 if no stripe is left, 4 if three or more columns of the frontier's stripe are missing
abbrev pub step_outcome : Shape → Members → Records → ℕ → Result ℕ Told
step_outcome V M R i =
    cond (open_here V R i)
    (cond (nat_lt (R i).frontier V.stripes)
    (unless_lost (lossy V M (frontiers R) (R i).frontier) V M (frontiers R) (R i).frontier (rebuilt (write_refusal (M i) (R i).frontier block_size) (R i).frontier))
    (Err (plain 7)))
    (Err (plain 8))

-- it meets none of the checks 8, 7 and 4
abbrev pub step_takes : Shape → Members → Records → ℕ → Bool
step_takes V M R i = open_here V R i && (nat_lt (R i).frontier V.stripes && not (lossy V M (frontiers R) (R i).frontier))

-- a refusal 9 carries the member's fault whole, and nothing else carries one
abbrev pub fault_of : {U : Type 0} → Result U Refusal → Option member.Refusal
fault_of (Ok u) = None
fault_of (Err NoSuch) = None
fault_of (Err Length) = None
fault_of (Err (Lost l)) = None
fault_of (Err (Torn l)) = None
fault_of (Err Busy) = None
fault_of (Err Whole) = None
fault_of (Err NotOpen) = None
fault_of (Err (Failed f)) = Some (member.numbers f)

abbrev pub step_fault : Shape → Members → Records → ℕ → Option member.Refusal
step_fault V M R i = cond (step_takes V M R i) (write_refusal (M i) (R i).frontier block_size) None

-- the recovered column of the frontier's stripe is written to the slot's member; the frontier goes one further if the member takes it
pub record StepChanges (V : Shape) (M : Members) (R : Records) (i : ℕ) (N : Members) (Q : Records) : Type 0 where
  pub taken : step_takes V M R i ≡ true → Moved (λ m n. Written m (R i).frontier (recovered_at V M (frontiers R) (R i).frontier (V.back (R i).frontier i)) n) i M N
  pub refused : step_takes V M R i ≡ false → N ≡ M
  pub records : Q ≡ cond (is_ok (step_outcome V M R i)) (event_records V R i Stepped) R

-- ---- what holds of them, for every lawful code, every layout, and whatever the members do within their rules

-- every content that fits goes on fitting
abbrev pub FitsOver : Shape → Members → Records → Members → Records → Type 0
FitsOver V M R N Q = (c : ℕ → List ℕ) → FitsVolume V M (frontiers R) c → FitsVolume V N (frontiers Q) c

abbrev pub Replaces : Type 0
Replaces = (V : Shape) → Valid V → (M : Members) (R : Records) (i : ℕ) (N : Members) (Q : Records) → ReplaceChanges V M R i N Q
    → FitsOver V M R N Q × CountsKept M N

abbrev pub Opens : Type 0
Opens = (V : Shape) → Valid V → (M : Members) (R : Records) (i : ℕ) → FitsOver V M R M (event_records V R i Opened)

abbrev pub Closes : Type 0
Closes = (V : Shape) → Valid V → (M : Members) (R : Records) (i : ℕ) → FitsOver V M R M (event_records V R i Closed)

abbrev pub Rebuilds : Type 0
Rebuilds = (V : Shape) → Valid V → (M : Members) (R : Records) → Roomy V M → (i : ℕ) (N : Members) (Q : Records) → StepChanges V M R i N Q
    → FitsOver V M R N Q × CountsKept M N

-- a step that meets no earlier check tells loss
abbrev pub RebuildLosses : Type 0
RebuildLosses = (V : Shape) (M : Members) (R : Records) (i : ℕ) → open_here V R i ≡ true → (R i).frontier < V.stripes
    → TellsLoss V M (frontiers R) (R i).frontier (step_outcome V M R i)
