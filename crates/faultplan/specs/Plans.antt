-- The table of planned faults, and what becomes of it.
use Rattle.std.specs.Prelude.{◌≡◌, ℕ, ◌+◌, Bool, false, cond, List, map, replicate, Ok, Err, Result, ◌==◌, nat_lt, slice_set}
use Rattle.std.specs.List.{list_any}
use Rattle.faultplan.specs.declared.entry.Kind.{Kind}
use Rattle.faultplan.specs.declared.entry.Kind.TheVariants.{Other}
use Rattle.faultplan.specs.declared.entry.Phase.TheVariants.{Waiting, Active, Ended}
use Rattle.faultplan.specs.declared.entry.Event.{Event}
use Rattle.faultplan.specs.declared.entry.Event.TheVariants.{Round, Fresh}
use Rattle.faultplan.specs.declared.entry.Check.{Check}
use Rattle.faultplan.specs.declared.entry.Entry.{Entry}
use Rattle.faultplan.specs.declared.plan.Plan.{Plan}
use Rattle.faultplan.specs.declared.plan.PlanRefusal.{PlanRefusal}
use Rattle.faultplan.specs.declared.plan.PlanRefusal.TheVariants.{Full}
use Rattle.faultplan.specs.Entries.{after, fails}

-- a table has sixteen places
abbrev pub places : ℕ
places = 16

-- the count of ticks stops here
abbrev pub last_round : ℕ
last_round = 65535

-- the number of each refusal
abbrev pub plan_number : PlanRefusal → ℕ
plan_number Full = 10

-- 0 for an entry that is added, else the refusal's number
abbrev pub add_answer : Result Unit PlanRefusal → ℕ
add_answer (Ok u) = 0
add_answer (Err e) = plan_number e

-- 10 where all places are taken, whether or not their entries have ended
abbrev pub room_answer : Plan → ℕ
room_answer p = cond (nat_lt p.len places) 0 10

-- a place that no entry has taken yet
abbrev pub unused : Entry
unused = record { round = 0; kind = Other; block = 0; phase = Ended }

-- no entries, and no tick so far
abbrev pub empty : Plan
empty = record { entries = replicate places unused; len = 0; round = 0 }

-- an entry when it is added at the round now: active if that is its round
abbrev pub added : ℕ → ℕ → Kind → ℕ → Entry
added now r k b = record { round = r; kind = k; block = b; phase = cond (r == now) Active Waiting }

-- with one entry more, where there is a place
abbrev pub with_entry : Plan → ℕ → Kind → ℕ → Plan
with_entry p r k b =
    cond (nat_lt p.len places) (record { entries = slice_set p.entries p.len (added p.round r k b); len = p.len + 1; round = p.round }) p

-- after an event, of which every entry is told
abbrev pub told : Event → Plan → Plan
told ev p = record { entries = map (after ev) p.entries; len = p.len; round = p.round }

-- at another round
abbrev pub at_round : ℕ → Plan → Plan
at_round n p = record { entries = p.entries; len = p.len; round = n }

-- after a tick: one round on, of which every entry is told, or no change where the count has stopped
abbrev pub advanced : Plan → Plan
advanced p = cond (nat_lt p.round last_round) (told (Round (p.round + 1)) (at_round (p.round + 1) p)) p

abbrev pub any : (Entry → Bool) → List Entry → Bool
any p es = list_any p es

-- whether some entry makes a check fail
abbrev pub failed : Check → Plan → Bool
failed c p = any (fails c) p.entries

-- After fresh the table makes no check fail, and an entry that has ended stays so at every event.
abbrev pub EndedForGood : Type 0
EndedForGood =
    ((c : Check) (p : Plan) → failed c (told Fresh p) ≡ false) × ((ev : Event) (e : Entry) → e.phase ≡ Ended → (after ev e).phase ≡ Ended)
