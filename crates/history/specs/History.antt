-- Histories: lists of calls with their answers, from the format of a volume on, and what is promised of every one.
use Rattle.std.specs.Prelude.{◌≡◌, ℕ, zero, suc, ◌+◌, ◌<◌, ◌≤◌, Bool, true, false, cond, ◌⊎◌, List, [], ◌∷◌, ◌++◌, map, length, Some, ◌==◌, ◌≢◌, slice_index_or}
use Rattle.code.specs.Blocks.{Bytes, block_size, zeros}
use Rattle.parity.specs.Stripe.{column, put}
use Rattle.contents.specs.Columns.{Members}
use Rattle.contents.specs.Refusals.{Told}
use Rattle.contents.specs.Records.{frontiers, idle_at}
use Rattle.contents.specs.Shapes.{Shape, Valid, Roomy, data_columns, blocks, stripe_of, columns_at, stripe}
use Rattle.contents.specs.Shapes as shapes
use Rattle.contents.specs.Changes.{FormatChanges}
use Rattle.contents.specs.Theorems.{ThreeMissing, Names}
use Rattle.contents.specs.Rebuilds.{open_here}
use Rattle.history.specs.Calls.{State, Call, Answer, Makes, Fits}
use Rattle.history.specs.Calls.Call.{tick, read, write, scrub, replace, open_slot, step, close, margin}
use Rattle.history.specs.Calls.Answer.{done, bytes, number, counts, order, refused}

-- a call and its answer
pub record Event : Type 0 where
  pub call : Call
  pub answer : Answer

-- ---- runs

-- A volume after its format: zeros were written to every block of every slot, which its member may have refused, and all slots are idle
-- with all stripes in their members.
pub record Formatted (V : Shape) (σ : State) : Type 0 where
  pub before : Members
  pub roomy : Roomy V before
  pub zeroed : FormatChanges V before σ.members
  pub idle : (i : ℕ) → i < V.slots → σ.records i ≡ idle_at V.stripes

-- what a write is given are bytes
abbrev pub GivenBytes : Call → Type 0
GivenBytes q = (a : ℕ) (v : List ℕ) → q ≡ write a v → Bytes (length v) v

-- n calls from the format on: state j stands before call j, and state j + 1 after it
pub record Run (V : Shape) (n : ℕ) (event : ℕ → Event) (state : ℕ → State) : Type 0 where
  pub begins : Formatted V (state 0)
  pub makes : (j : ℕ) → j < n → Makes V (state j) (event j).call (event j).answer (state (suc j))
  pub given : (j : ℕ) → j < n → GivenBytes (event j).call

-- ---- the written content, by calls and answers alone

-- a write is taken unless it is refused with 2, 3 or 4
abbrev pub taken_number : ℕ → Bool
taken_number x = cond (x == 2) false (cond (x == 3) false (cond (x == 4) false true))

abbrev pub taken : Answer → Bool
taken done = true
taken (bytes b) = true
taken (number x) = true
taken (counts x y z) = true
taken (order i) = true
taken (refused t) = taken_number t.number

-- a taken write puts its bytes at its block; every other call leaves the content
abbrev pub after : (ℕ → List ℕ) → Call → Answer → ℕ → List ℕ
after c tick r = c
after c (read a len) r = c
after c (write a v) r = cond (taken r) (put c a v) c
after c (scrub s) r = c
after c (replace i) r = c
after c (open_slot i) r = c
after c (step i) r = c
after c (close i) r = c
after c margin r = c

-- the content after the first j calls: zeros at the format
unfoldable pub written : (ℕ → Event) → ℕ → ℕ → List ℕ
written event zero = λ _. zeros
written event (suc j) = after (written event j) (event j).call (event j).answer

-- the call is a write of v to block a, and is taken
abbrev pub Takes : Event → ℕ → List ℕ → Type 0
Takes e a v = (e.call ≡ write a v) × (taken e.answer ≡ true)

-- the call is a read of block a, and b is handed out
abbrev pub Hands : Event → ℕ → List ℕ → Type 0
Hands e a b = ((len : ℕ) × (e.call ≡ read a len)) × (e.answer ≡ bytes b)

-- b is what the last taken write to block a before call j put there, or zeros where there is none
abbrev pub LastWritten : (ℕ → Event) → ℕ → ℕ → List ℕ → Type 0
LastWritten event j a b =
    ((i : ℕ) × (i < j) × Takes (event i) a b × ((u : ℕ) (v : List ℕ) → i < u → u < j → Takes (event u) a v → ⊥))
    ⊎ ((b ≡ zeros) × ((u : ℕ) (v : List ℕ) → u < j → Takes (event u) a v → ⊥))

-- ---- reads and losses

abbrev pub RefusedWith : ℕ → Answer → Type 0
RefusedWith n r = (t : Told) × (r ≡ refused t) × (t.number ≡ n)

-- the contents that fit are all equal at block a
abbrev pub AgreeAt : Shape → State → ℕ → Type 0
AgreeAt V σ a = shapes.AgreeAt V σ.members (frontiers σ.records) a

-- two contents that fit differ at block a
abbrev pub DifferAt : Shape → State → ℕ → Type 0
DifferAt V σ a = (c d : ℕ → List ℕ) × Fits V σ c × Fits V σ d × (c a ≢ d a)

-- r answers a read of block a into 512 bytes: it is answered exactly when all contents that fit agree there, by what they share
pub record ReadRight (V : Shape) (σ : State) (a : ℕ) (r : Answer) : Type 0 where
  pub answered : AgreeAt V σ a → (b : List ℕ) × (r ≡ bytes b)
  pub agree : (b : List ℕ) → r ≡ bytes b → AgreeAt V σ a
  pub shared : (b : List ℕ) → r ≡ bytes b → (c : ℕ → List ℕ) → Fits V σ c → c a ≡ b

-- a refusal names exactly the slots of stripe s that are missing, each once and with its cause
abbrev pub NamesMissing : Shape → State → ℕ → Told → Type 0
NamesMissing V σ s t = Names V σ.members (frontiers σ.records) s t

abbrev pub ThreeLost : Shape → State → ℕ → Type 0
ThreeLost V σ s = ThreeMissing V σ.members (frontiers σ.records) s

-- an answer is a refusal for loss exactly when three or more columns of stripe s are missing, and names them
pub record TellsLoss (V : Shape) (σ : State) (s : ℕ) (r : Answer) : Type 0 where
  pub only : RefusedWith 4 r → ThreeLost V σ s
  pub always : ThreeLost V σ s → RefusedWith 4 r
  pub names : (t : Told) → r ≡ refused t → ◌≡◌ {A = ℕ} t.number 4 → NamesMissing V σ s t

-- b is what the code gives for P or Q of stripe s of the content c, wherever that column is current
abbrev pub ParitiesRight : Shape → State → (ℕ → List ℕ) → Type 0
ParitiesRight V σ c =
    (s t : ℕ) (b : List ℕ) → s < V.stripes → data_columns V ≤ t → t < data_columns V + 2
    → columns_at V σ.members (frontiers σ.records) s t ≡ Some b → b ≡ column V.code (data_columns V) (stripe V c s) t

-- ---- the promise on a run of n calls
pub record Promise (V : Shape) (n : ℕ) (event : ℕ → Event) (state : ℕ → State) : Type 0 where
  -- no read hands out bytes other than its block's last taken write, zeros before the first
  pub reads_last_written : (j a : ℕ) (b : List ℕ) → j < n → Hands (event j) a b → LastWritten event j a b
  -- at the start and after each call the written content fits
  pub written_fits : (j : ℕ) → j ≤ n → Fits V (state j) (written event j)
  -- and every parity column that is current is the one that the code gives for it
  pub parities_right : (j : ℕ) → j ≤ n → ParitiesRight V (state j) (written event j)
  -- where a read is refused for loss, two contents that fit differ at its block
  pub loss_is_real : (j a len : ℕ) → j < n → (event j).call ≡ read a len → RefusedWith 4 (event j).answer → DifferAt V (state j) a
  -- three or more columns of its stripe are missing, and the refusal names them
  pub read_loss_named : (j a len : ℕ) (t : Told) → j < n → (event j).call ≡ read a len → (event j).answer ≡ refused t → ◌≡◌ {A = ℕ} t.number 4
      → ThreeLost V (state j) (stripe_of V a) × NamesMissing V (state j) (stripe_of V a) t
  -- a write that is refused with 5 names the slots that are missing after it
  pub torn_named : (j a : ℕ) (v : List ℕ) (t : Told) → j < n → (event j).call ≡ write a v → (event j).answer ≡ refused t → ◌≡◌ {A = ℕ} t.number 5
      → ThreeLost V (state (suc j)) (stripe_of V a) × NamesMissing V (state (suc j)) (stripe_of V a) t
  -- no frontier is ever above the number of stripes
  pub frontiers_within : (j i : ℕ) → j ≤ n → i < V.slots → ((state j).records i).frontier ≤ V.stripes
  -- on every volume that some content fits, all that fit are equal at a block exactly when a read of it is answered, which hands out
  -- what they share
  pub reads_what_is_shared : (σ τ : State) (a : ℕ) (r : Answer) → a < blocks V → (c : ℕ → List ℕ) → Fits V σ c → Makes V σ (read a block_size) r τ → ReadRight V σ a r
  -- on every volume, a write, scrub or step that meets no earlier check is refused for loss exactly when three or more columns of its
  -- stripe are missing, and names them
  pub write_loss : (σ τ : State) (a : ℕ) (v : List ℕ) (r : Answer) → length v ≡ block_size → a < blocks V → Makes V σ (write a v) r τ → TellsLoss V σ (stripe_of V a) r
  pub scrub_loss : (σ τ : State) (s : ℕ) (r : Answer) → s < V.stripes → Makes V σ (scrub s) r τ → TellsLoss V σ s r
  pub step_loss : (σ τ : State) (i : ℕ) (r : Answer) → open_here V σ.records i ≡ true → (σ.records i).frontier < V.stripes → Makes V σ (step i) r τ
      → TellsLoss V σ (σ.records i).frontier r

-- every run on every valid volume keeps it
abbrev pub EveryRun : Type 0
EveryRun = (V : Shape) → Valid V → (n : ℕ) (event : ℕ → Event) (state : ℕ → State) → Run V n event state → Promise V n event state

-- ---- the promise on a list of events, from the formatted volume at the start to σ

abbrev pub event_of : List Event → ℕ → Event
event_of es j = slice_index_or es j (record { call = tick; answer = done })

pub record Kept (V : Shape) (start : State) (es : List Event) (σ : State) : Type 0 where
  pub valid : Valid V
  pub state : ℕ → State
  pub starts : state 0 ≡ start
  pub ends : state (length es) ≡ σ
  pub run : Run V (length es) (event_of es) state
  pub promise : Promise V (length es) (event_of es) state

-- it holds of a formatted volume, which nothing was asked of
abbrev pub KeptFromFormat : Type 0
KeptFromFormat = (V : Shape) → Valid V → (σ : State) → Formatted V σ → Kept V σ [] σ

-- and goes on holding with each call, whatever it is
abbrev pub KeptByCalls : Type 0
KeptByCalls = (V : Shape) (start : State) (es : List Event) (σ τ : State) (q : Call) (r : Answer) → Kept V start es σ → GivenBytes q → Makes V σ q r τ
    → Kept V start (es ++ record { call = q; answer = r } ∷ []) τ

-- wherever it holds, every member has a block for each stripe
abbrev pub KeptIsRoomy : Type 0
KeptIsRoomy = (V : Shape) (start : State) (es : List Event) (σ : State) → Kept V start es σ → Roomy V σ.members

-- ---- there are histories

-- members with room for a volume can be formatted for it
abbrev pub CanFormat : Type 0
CanFormat = (V : Shape) (M : Members) → Roomy V M → (σ : State) × (f : Formatted V σ) × (f.before ≡ M)

-- and a formatted volume of every shape is there
abbrev pub SomeFormatted : Type 0
SomeFormatted = (V : Shape) → (σ : State) × Formatted V σ

-- every call on every volume has an answer, and a state after it
abbrev pub AlwaysAnswers : Type 0
AlwaysAnswers = (V : Shape) (σ : State) (q : Call) → (r : Answer) × (τ : State) × Makes V σ q r τ

-- what every write among them is given are bytes
abbrev pub AllGiven : List Call → Type 0
AllGiven [] = Unit {0}
AllGiven (q ∷ qs) = GivenBytes q × AllGiven qs

-- so that from a formatted volume there is a history of any calls
abbrev pub EveryCalls : Type 0
EveryCalls = (V : Shape) → Valid V → (σ : State) → Formatted V σ → (qs : List Call) → AllGiven qs
    → (es : List Event) × (τ : State) × (map (λ (e : Event). e.call) es ≡ qs) × Kept V σ es τ
