-- The faults that a script plans for a slot.
use Rattle.std.specs.Prelude.{ℕ, zero, suc, cond, List, Some, None, Option, ◌==◌}
use Rattle.faultplan.specs.declared.plan.Plan.{Plan}
use Rattle.faultplan.specs.Entries.{kind_of}
use Rattle.faultplan.specs.Plans.{empty, with_entry}
use Rattle.script.specs.declared.parts.Entry.{Entry}
use Rattle.script.specs.Format.{entry_at}

-- a plan with a script's entry, if there is one and it is for this slot
abbrev pub with_planned : Option Entry → ℕ → Plan → Plan
with_planned None slot p = p
with_planned (Some e) slot p = cond (e.slot == slot) (with_entry p e.round (kind_of e.kind) e.block) p

-- the first n entries of the script xs, as far as they are for this slot, in their order
unfoldable pub planned : List ℕ → ℕ → ℕ → Plan
planned xs slot zero = empty
planned xs slot (suc n) = with_planned (entry_at xs n) slot (planned xs slot n)
