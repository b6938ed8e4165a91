-- What the calls and answers of a run tell of its volume.
use Rattle.std.specs.Prelude.{◌≡◌, ℕ, Bool, true, false, cond, not, List, [], ◌∷◌, ◌++◌, map, reverse, length, vec_items, nat_lt, slice_index_or, Ok, Err, Result}
use Rattle.std.specs.List.{remove}
use Rattle.bank.specs.declared.Bank.{Ghosts as Bank}
use Rattle.contents.specs.Refusals.{told}
use Rattle.contents.specs.Shapes.{Shape}
use Rattle.history.specs.Calls as calls
use Rattle.history.specs.Calls.{State}
use Rattle.history.specs.Calls.Call.{tick, read, write, scrub, replace, open_slot, step, close, margin}
use Rattle.history.specs.Calls.Answer.{done, bytes, number, counts, order, refused}
use Rattle.history.specs.History.{Event, Kept}
use Rattle.volume.specs.declared.volume.Volume.{Volume}
use Rattle.volume.specs.declared.volume.rebuilds.Order.{Order}
use Rattle.volume.specs.Volumes.{members, records}
use Rattle.runs.specs.declared.Call.{Call}
use Rattle.runs.specs.declared.Call.TheVariants.{Tick, Read, Write, Scrub, Replace, Open, Step, Close, Margin}
use Rattle.runs.specs.declared.Answer as answer
use Rattle.runs.specs.declared.Answer.{Answer}
use Rattle.runs.specs.declared.Answer.TheVariants.{Done, Block, Number, Counts}
use Rattle.runs.specs.declared.Declined.{Declined}
use Rattle.runs.specs.declared.Declined.TheVariants.{Refused, NoOrder}

-- what of a volume changes
abbrev pub state : {C L B : Type 0} → Bank B → Volume C L B → State
state B v = record { members = members B v; records = records v }

-- the slot that the order in place k is for
abbrev pub slot_at : List Order → ℕ → ℕ
slot_at os k = (slice_index_or os k (record { slot = 0 })).slot

-- the call that is made, with these orders at hand
abbrev pub call_of : List Order → Call → calls.Call
call_of os Tick = tick
call_of os (Read a len) = read a len
call_of os (Write a v) = write a (vec_items v)
call_of os (Scrub s) = scrub s
call_of os (Replace i) = replace i
call_of os (Open i) = open_slot i
call_of os (Step k) = step (slot_at os k)
call_of os (Close k) = close (slot_at os k)
call_of os Margin = margin

-- an answer of the volume, and a refusal of it or nothing where no call was made
abbrev pub answer_told : Answer → calls.Answer
answer_told Done = done
answer_told (Block b) = bytes b
answer_told (Number n) = number n
answer_told (Counts x y z) = counts x y z
answer_told (answer.TheVariants.Order i) = order i

abbrev pub declined_told : Declined → List calls.Answer
declined_told (Refused e) = refused (told e) ∷ []
declined_told NoOrder = []

-- the answer of the call, if one was made
abbrev pub answer_of : Result Answer Declined → List calls.Answer
answer_of (Ok a) = answer_told a ∷ []
answer_of (Err d) = declined_told d

-- a call with its answer, as an event
abbrev pub event : calls.Call → calls.Answer → List Event
event q r = record { call = q; answer = r } ∷ []

abbrev pub event_with : calls.Call → List calls.Answer → List Event
event_with q [] = []
event_with q (r ∷ rs) = event q r

-- what is added to the history: the call that was made and its answer, or nothing where there was no such order
abbrev pub event_of : List Order → Call → Result Answer Declined → List Event
event_of os q r = event_with (call_of os q) (answer_of r)

-- the orders at hand after it: an order that was handed out comes last, one that was used up is gone
abbrev pub with_order : List Order → Answer → List Order
with_order os Done = os
with_order os (Block b) = os
with_order os (Number n) = os
with_order os (Counts x y z) = os
with_order os (answer.TheVariants.Order i) = os ++ record { slot = i } ∷ []

abbrev pub with_answer : List Order → Result Answer Declined → List Order
with_answer os (Ok a) = with_order os a
with_answer os (Err d) = os

abbrev pub orders_after : List Order → Call → Result Answer Declined → List Order
orders_after os Tick r = os
orders_after os (Read a len) r = os
orders_after os (Write a v) r = os
orders_after os (Scrub s) r = os
orders_after os (Replace i) r = os
orders_after os (Open i) r = with_answer os r
orders_after os (Step k) r = os
orders_after os (Close k) r = cond (nat_lt k (length os)) (remove os k) os
orders_after os Margin r = os

-- the call is by an order, and none is in its place
abbrev pub lacks : List Order → Call → Bool
lacks os Tick = false
lacks os (Read a len) = false
lacks os (Write a v) = false
lacks os (Scrub s) = false
lacks os (Replace i) = false
lacks os (Open i) = false
lacks os (Step k) = not (nat_lt k (length os))
lacks os (Close k) = not (nat_lt k (length os))
lacks os Margin = false

-- the answer is that there is no order
abbrev pub is_no_order : Declined → Bool
is_no_order (Refused e) = false
is_no_order NoOrder = true

abbrev pub is_none : Result Answer Declined → Bool
is_none (Ok a) = false
is_none (Err d) = is_no_order d

-- every call of a run was made, but for those that lack their order
abbrev pub AllMade : List Order → List Call → List (Result Answer Declined) → Type 0
AllMade os [] rs = Unit {0}
AllMade os (q ∷ qs) [] = ⊥
AllMade os (q ∷ qs) (r ∷ rs) = (is_none r ≡ lacks os q) × AllMade (orders_after os q r) qs rs

-- the events of a run of calls with these answers, the orders at hand going on from call to call
abbrev pub events : List Order → List Call → List (Result Answer Declined) → List Event
events os [] rs = []
events os (q ∷ qs) [] = []
events os (q ∷ qs) (r ∷ rs) = event_of os q r ++ events (orders_after os q r) qs rs

-- and the orders at hand after all of them
abbrev pub orders_left : List Order → List Call → List (Result Answer Declined) → List Order
orders_left os [] rs = os
orders_left os (q ∷ qs) [] = os
orders_left os (q ∷ qs) (r ∷ rs) = orders_left (orders_after os q r) qs rs

-- whatever history the volume has, it goes on by these events: what is promised of it goes on holding
abbrev pub GoesOn : Shape → State → List Event → State → Type 0
GoesOn V σ new τ = (start : State) (es : List Event) → Kept V start es σ → Kept V start (es ++ new) τ

-- the calls that close these orders, the last first
abbrev pub closings : List Order → List calls.Call
closings os = map (λ (o : Order). close o.slot) (reverse os)

-- they are made, and the history goes on by them, whatever each is answered
pub record ClosesOn (V : Shape) (σ : State) (os : List Order) (τ : State) : Type 0 where
  pub log : List Event
  pub closes : map (λ (e : Event). e.call) log ≡ closings os
  pub goes : GoesOn V σ log τ
