use Rattle.std.proofs.Common.{◌≡◌, ◌++◌, map, length, take, drop}
use Rattle.faultplan.specs.Entries.{after}
use Rattle.faultplan.proofs.plan.tell_each.Given as goal

abbrev pub invariant-loop-entry : goal.invariant-loop-entry
invariant-loop-entry l =
    (l.entries ≡ map (after l.event) (take l.entry-index l.initial.entries) ++ drop l.entry-index l.initial.entries)
    × (length l.entries ≡ 16)
