-- What holds of every volume: for every lawful code, with data columns up to its limit, every layout, and whatever the members do
-- within their rules.
use Rattle.std.specs.Prelude.{◌≡◌, ℕ, ◌+◌, ◌/◌, ◌%◌, ◌^◌, ◌<◌, ◌≤◌, true, cond, ◌⊎◌, List, length, None, Ok, Err, Result, ◌≢◌}
use Rattle.code.specs.Blocks.{Bytes, block_size, zeros}
use Rattle.code.specs.Codes.{Coding, Lawful}
use Rattle.parity.specs.Stripe.{put}
use Rattle.layout.specs.Placing.{Placing}
use Rattle.member.specs.Meaning.{most_blocks}
use Rattle.contents.specs.declared.Status.{Status}
use Rattle.contents.specs.declared.Status.TheVariants.{Current, Gone, Behind, Unreadable}
use Rattle.contents.specs.Columns.{Members, Frontiers, status, held, is_current, count}
use Rattle.contents.specs.Refusals.{Told, refusal_number, taken}
use Rattle.contents.specs.Shapes.{Shape, Valid, Roomy, data_columns, blocks, stripe_of, columns_at, FitsVolume, AgreeAt, smallest, formed}
use Rattle.contents.specs.Answers.{read_outcome, read_leaves, write_takes, write_outcome, scrub_takes, mended, refused, absent, scrub_outcome, takes}
use Rattle.contents.specs.Changes.{WriteChanges, ScrubChanges, TickChanges, FormatChanges}

-- every member keeps its count of blocks
abbrev pub CountsKept : Members → Members → Type 0
CountsKept M N = (i : ℕ) → (N i).count ≡ (M i).count

-- every content that fits goes on fitting
abbrev pub FitsOn : Shape → Members → Frontiers → Members → Type 0
FitsOn V M F N = (c : ℕ → List ℕ) → FitsVolume V M F c → FitsVolume V N F c

-- ---- reads

pub record Reading (V : Shape) (M : Members) (F : Frontiers) : Type 0 where
  -- a read leaves the members, so that every content that fits goes on fitting
  pub fits : (N : Members) → N ≡ M → FitsOn V M F N
  -- a read that is answered leaves the block of every content that fits
  pub hands : (a : ℕ) (old : List ℕ) → read_outcome V M F a (length old) ≡ Ok tt → (c : ℕ → List ℕ) → FitsVolume V M F c → read_leaves V M F a old ≡ c a
  -- where some content fits, all that fit agree at a block exactly when the read of it into 512 bytes is answered
  pub agree : (a : ℕ) → read_outcome V M F a block_size ≡ Ok tt → AgreeAt V M F a
  pub answered : (c : ℕ → List ℕ) → FitsVolume V M F c → (a : ℕ) → a < blocks V → AgreeAt V M F a → read_outcome V M F a block_size ≡ Ok tt
  -- where a read is refused for loss, beside a content that fits there is another that differs at its block
  pub lost : (c : ℕ → List ℕ) → FitsVolume V M F c → (a len : ℕ) → ◌≡◌ {A = ℕ} (refusal_number (read_outcome V M F a len)) 4
      → (d : ℕ → List ℕ) × FitsVolume V M F d × (d a ≢ c a)

abbrev pub Reads : Type 0
Reads = (V : Shape) → Valid V → (M : Members) (F : Frontiers) → Reading V M F

-- ---- writes

pub record Writing (V : Shape) (M : Members) (F : Frontiers) (a : ℕ) (v : List ℕ) (N : Members) : Type 0 where
  -- the write is taken unless it is refused with 2, 3 or 4
  pub takes : taken (write_outcome V M F a (length v) N) ≡ write_takes V M F a (length v)
  -- a content that fits before a taken write fits after it with v at block a; a write that is not taken leaves what fits
  pub fits : (c : ℕ → List ℕ) → FitsVolume V M F c → FitsVolume V N F (cond (write_takes V M F a (length v)) (put c a v) c)
  pub counts : CountsKept M N

abbrev pub Writes : Type 0
Writes = (V : Shape) → Valid V → (M : Members) (F : Frontiers) → Roomy V M → (a : ℕ) (v : List ℕ) (N : Members) → Bytes (length v) v
    → WriteChanges V M F a v N → Writing V M F a v N

-- ---- scrubs, ticks and formatting

pub record Scrubbing (V : Shape) (M : Members) (F : Frontiers) (s : ℕ) (N : Members) : Type 0 where
  pub fits : FitsOn V M F N
  pub counts : CountsKept M N
  -- mended, refused and absent columns, and those that were current, are all columns, each counted once
  pub accounts : mended V M F s + refused V M F s + absent V M F s + count (λ i. is_current (status M F s i)) V.slots ≡ V.slots
  -- where some content fits, an unreadable column whose member takes the write is current after a taken scrub
  pub mends : (c : ℕ → List ℕ) → FitsVolume V M F c → scrub_takes V M F s ≡ true → (i : ℕ) → i < V.slots → status M F s i ≡ Unreadable → takes (M i) s ≡ true
      → status N F s i ≡ Current

abbrev pub Scrubs : Type 0
Scrubs = (V : Shape) → Valid V → (M : Members) (F : Frontiers) → Roomy V M → (s : ℕ) (N : Members) → ScrubChanges V M F s N → Scrubbing V M F s N

abbrev pub Ticks : Type 0
Ticks = (V : Shape) → Valid V → (M : Members) (F : Frontiers) → Roomy V M → (N : Members) → TickChanges V M N → FitsOn V M F N × CountsKept M N

-- after format the content of zeros fits, wherever the frontiers stand
abbrev pub Formats : Type 0
Formats = (V : Shape) → Valid V → (M : Members) (F : Frontiers) → Roomy V M → (N : Members) → FormatChanges V M N
    → FitsVolume V N F (λ _. zeros) × CountsKept M N

-- ---- what parts make

-- the smallest count is below no member's, and one member has it
abbrev pub SmallestCount : Type 0
SmallestCount = (M : Members) (n : ℕ) → 0 < n → ((i : ℕ) → i < n → (M i).count ≤ most_blocks)
    → ((i : ℕ) → i < n → smallest M n ≤ (M i).count) × ((i : ℕ) × (i < n) × ((M i).count ≡ smallest M n))

-- the parts make a valid shape, for which every member has room
abbrev pub Forms : Type 0
Forms = (C : Coding) → Lawful block_size C → (slot column : ℕ → ℕ → ℕ → ℕ) → ((n s : ℕ) → Placing n (slot n s) (column n s))
    → (n : ℕ) (M : Members) → Valid (formed C slot column n M) × Roomy (formed C slot column n M) M

-- ---- loss

-- three distinct columns of stripe s are missing
abbrev pub ThreeMissing : Shape → Members → Frontiers → ℕ → Type 0
ThreeMissing V M F s =
    (t u w : ℕ) × (t < u) × (u < w) × (w < data_columns V + 2) × (columns_at V M F s t ≡ None) × (columns_at V M F s u ≡ None) × (columns_at V M F s w ≡ None)

-- bit i of a mask
abbrev pub bit : ℕ → ℕ → ℕ
bit m i = (m / (2 ^ i)) % 2

abbrev pub Set : ℕ → ℕ → Type 0
Set m i = ◌≡◌ {A = ℕ} (bit m i) 1

-- bit i is set exactly where i is a slot of the volume whose column of stripe s has the status x
abbrev pub Exactly : Shape → Members → Frontiers → ℕ → Status → ℕ → Type 0
Exactly V M F s x m = (i : ℕ) → (Set m i → (i < V.slots) × (status M F s i ≡ x)) × ((i < V.slots) × (status M F s i ≡ x) → Set m i)

-- a refusal names exactly the slots of stripe s that are missing, each once and with its cause
pub record Names (V : Shape) (M : Members) (F : Frontiers) (s : ℕ) (t : Told) : Type 0 where
  pub stripe : t.stripe ≡ s
  pub gone : Exactly V M F s Gone t.gone
  pub behind : Exactly V M F s Behind t.behind
  pub unreadable : Exactly V M F s Unreadable t.unreadable
  pub all : (i : ℕ) → i < V.slots → held M F s i ≡ None → Set t.gone i ⊎ (Set t.behind i ⊎ Set t.unreadable i)
  pub once : (i : ℕ) → bit t.gone i + bit t.behind i + bit t.unreadable i ≤ 1

-- an answer is refusal 4 exactly when three or more columns of stripe s are missing, and names them
pub record TellsLoss (V : Shape) (M : Members) (F : Frontiers) (s : ℕ) {U : Type 0} (r : Result U Told) : Type 0 where
  pub only : ◌≡◌ {A = ℕ} (refusal_number r) 4 → ThreeMissing V M F s
  pub always : ThreeMissing V M F s → ◌≡◌ {A = ℕ} (refusal_number r) 4
  pub names : (t : Told) → r ≡ Err t → ◌≡◌ {A = ℕ} t.number 4 → Names V M F s t

pub record Losing (V : Shape) (M : Members) (F : Frontiers) : Type 0 where
  -- a write or a scrub that meets no earlier check
  pub write : (a : ℕ) (N : Members) → a < blocks V → TellsLoss V M F (stripe_of V a) (write_outcome V M F a block_size N)
  pub scrub : (s : ℕ) → s < V.stripes → TellsLoss V M F s (scrub_outcome V M F s)
  -- a read that is refused for loss names what is lost, and so does refusal 5, of the members after the write
  pub read : (a len : ℕ) (t : Told) → read_outcome V M F a len ≡ Err t → ◌≡◌ {A = ℕ} t.number 4
      → ThreeMissing V M F (stripe_of V a) × Names V M F (stripe_of V a) t
  pub torn : (a len : ℕ) (N : Members) (t : Told) → write_outcome V M F a len N ≡ Err t → ◌≡◌ {A = ℕ} t.number 5
      → ThreeMissing V N F (stripe_of V a) × Names V N F (stripe_of V a) t

abbrev pub Losses : Type 0
Losses = (V : Shape) (M : Members) (F : Frontiers) → Losing V M F
