-- The calls on a volume as a history has them: what each answers and what it changes.
use Rattle.std.specs.Prelude.{◌≡◌, ℕ, List, length, Ok, Err, Result}
use Rattle.contents.specs.declared.SlotEvent.TheVariants.{Opened, Closed}
use Rattle.contents.specs.Columns.{Members}
use Rattle.contents.specs.Refusals.{Told}
use Rattle.contents.specs.Records.{Records, frontiers}
use Rattle.contents.specs.Shapes.{Shape, stripe_of, column_of, recovered_at, FitsVolume}
use Rattle.contents.specs.Answers as answers
use Rattle.contents.specs.Changes.{WriteChanges, ScrubChanges, TickChanges}
use Rattle.contents.specs.Rebuilds.{event_records, replace_outcome, open_outcome, step_outcome, close_outcome, ReplaceChanges, StepChanges}

-- what of a volume changes: its members and its slots' records
pub record State : Type 0 where
  pub members : Members
  pub records : Records

-- A read gives the length of its buffer, a write its bytes. A step or a close is by an order for a slot, be it this volume's order or
-- another's. Margin only asks.
pub data Call : Type 0 where
  tick : Call
  read : ℕ → ℕ → Call
  write : ℕ → List ℕ → Call
  scrub : ℕ → Call
  replace : ℕ → Call
  open_slot : ℕ → Call
  step : ℕ → Call
  close : ℕ → Call
  margin : Call

-- a block's bytes, a number, the three counts of a scrub, an order for a slot, or a refusal in numbers
pub data Answer : Type 0 where
  done : Answer
  bytes : List ℕ → Answer
  number : ℕ → Answer
  counts : ℕ → ℕ → ℕ → Answer
  order : ℕ → Answer
  refused : Told → Answer

abbrev pub answered : {U : Type 0} → (U → Answer) → Result U Told → Answer
answered f (Ok u) = f u
answered f (Err t) = refused t

-- what a call on σ answers, with τ after it
abbrev pub answer_to : Shape → State → Call → State → Answer
answer_to V σ tick τ = done
answer_to V σ (read a len) τ =
    answered (λ _. bytes (recovered_at V σ.members (frontiers σ.records) (stripe_of V a) (column_of V a)))
    (answers.read_outcome V σ.members (frontiers σ.records) a len)
answer_to V σ (write a v) τ = answered number (answers.write_outcome V σ.members (frontiers σ.records) a (length v) τ.members)
answer_to V σ (scrub s) τ = answered (λ x. counts x.0 x.1 x.2) (answers.scrub_outcome V σ.members (frontiers σ.records) s)
answer_to V σ (replace i) τ = answered (λ _. done) (replace_outcome V σ.records i)
answer_to V σ (open_slot i) τ = answered order (open_outcome V σ.records i)
answer_to V σ (step i) τ = answered number (step_outcome V σ.members σ.records i)
answer_to V σ (close i) τ = answered number (close_outcome V σ.records i)
answer_to V σ margin τ = number (answers.margin V σ.members (frontiers σ.records))

-- what a call on σ changes, with τ after it
abbrev pub Changes : Shape → State → Call → State → Type 0
Changes V σ tick τ = TickChanges V σ.members τ.members × (τ.records ≡ σ.records)
Changes V σ (read a len) τ = (τ.members ≡ σ.members) × (τ.records ≡ σ.records)
Changes V σ (write a v) τ = WriteChanges V σ.members (frontiers σ.records) a v τ.members × (τ.records ≡ σ.records)
Changes V σ (scrub s) τ = ScrubChanges V σ.members (frontiers σ.records) s τ.members × (τ.records ≡ σ.records)
Changes V σ (replace i) τ = ReplaceChanges V σ.members σ.records i τ.members τ.records
Changes V σ (open_slot i) τ = (τ.members ≡ σ.members) × (τ.records ≡ event_records V σ.records i Opened)
Changes V σ (step i) τ = StepChanges V σ.members σ.records i τ.members τ.records
Changes V σ (close i) τ = (τ.members ≡ σ.members) × (τ.records ≡ event_records V σ.records i Closed)
Changes V σ margin τ = (τ.members ≡ σ.members) × (τ.records ≡ σ.records)

-- the call q on σ is answered by r and leaves τ
pub record Makes (V : Shape) (σ : State) (q : Call) (r : Answer) (τ : State) : Type 0 where
  pub answer : r ≡ answer_to V σ q τ
  pub changes : Changes V σ q τ

-- the content c fits the volume
abbrev pub Fits : Shape → State → (ℕ → List ℕ) → Type 0
Fits V σ c = FitsVolume V σ.members (frontiers σ.records) c
