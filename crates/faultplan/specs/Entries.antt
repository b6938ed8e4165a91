-- What one planned fault does, and what becomes of it.
use Rattle.std.specs.Prelude.{ℕ, Bool, true, false, cond, ◌&&◌, ◌||◌, ◌==◌}
use Rattle.member.specs.declared.Cause.{Cause}
use Rattle.member.specs.declared.Cause.TheVariants as cause
use Rattle.faultplan.specs.declared.entry.Kind.{Kind}
use Rattle.faultplan.specs.declared.entry.Kind.TheVariants.{Gone, Unreadable, Unwritable, Other}
use Rattle.faultplan.specs.declared.entry.Phase.{Phase}
use Rattle.faultplan.specs.declared.entry.Phase.TheVariants.{Waiting, Active, Spoiled, Ended}
use Rattle.faultplan.specs.declared.entry.Event.{Event}
use Rattle.faultplan.specs.declared.entry.Event.TheVariants.{Round, Refused, Accepted, Fresh}
use Rattle.faultplan.specs.declared.entry.Check.{Check}
use Rattle.faultplan.specs.declared.entry.Check.TheVariants.{Present, Readable, Writable}
use Rattle.faultplan.specs.declared.entry.Entry.{Entry}

-- the kind with this number: 1 gone, 2 unreadable, 3 unwritable, and every other number does nothing
abbrev pub kind_of : ℕ → Kind
kind_of n = cond (n == 1) Gone (cond (n == 2) Unreadable (cond (n == 3) Unwritable Other))

abbrev pub is_gone : Kind → Bool
is_gone Gone = true
is_gone Unreadable = false
is_gone Unwritable = false
is_gone Other = false

abbrev pub is_unreadable : Kind → Bool
is_unreadable Gone = false
is_unreadable Unreadable = true
is_unreadable Unwritable = false
is_unreadable Other = false

abbrev pub is_unwritable : Kind → Bool
is_unwritable Gone = false
is_unwritable Unreadable = false
is_unwritable Unwritable = true
is_unwritable Other = false

abbrev pub is_waiting : Phase → Bool
is_waiting Waiting = true
is_waiting Active = false
is_waiting Spoiled = false
is_waiting Ended = false

abbrev pub is_active : Phase → Bool
is_active Waiting = false
is_active Active = true
is_active Spoiled = false
is_active Ended = false

abbrev pub is_spoiled : Phase → Bool
is_spoiled Waiting = false
is_spoiled Active = false
is_spoiled Spoiled = true
is_spoiled Ended = false

-- the cause of the fault that answers a call which fails the check
abbrev pub check_cause : Check → Cause
check_cause Present = cause.Gone
check_cause (Readable b) = cause.Unreadable
check_cause (Writable b) = cause.Unwritable

-- a new round concerns the entries of that round, a write those of its block, and fresh concerns every entry
abbrev pub concerns : Event → Entry → Bool
concerns (Round n) e = e.round == n
concerns (Refused b) e = e.block == b
concerns (Accepted b) e = e.block == b
concerns Fresh e = true

-- The phase of an entry after an event that concerns it. In its round a waiting entry becomes active. An unwritable block is
-- spoiled by a refused write; an unreadable one is mended by an accepted write, which ends its entry. Fresh ends what is active.
abbrev pub next_phase : Event → Kind → Phase → Phase
next_phase (Round n) k f = cond (is_waiting f) Active f
next_phase (Refused b) k f = cond (is_unwritable k && is_active f) Spoiled f
next_phase (Accepted b) k f = cond (is_unreadable k && is_active f) Ended f
next_phase Fresh k f = cond (is_active f || is_spoiled f) Ended f

-- an entry after an event
abbrev pub after : Event → Entry → Entry
after ev e = record {
  round = e.round;
  kind = e.kind;
  block = e.block;
  phase = cond (concerns ev e) (next_phase ev e.kind e.phase) e.phase;
}

-- an active entry of kind 1 makes the member gone
abbrev pub removes : Kind → Phase → Bool
removes k f = is_gone k && is_active f

-- an active entry of kind 2 makes its block unreadable, and so does one of kind 3 that has refused a write
abbrev pub stops_reads : Kind → Phase → Bool
stops_reads k f = (is_unreadable k && is_active f) || (is_unwritable k && is_spoiled f)

-- an entry of kind 3 refuses writes to its block from when it is active until it is ended
abbrev pub stops_writes : Kind → Phase → Bool
stops_writes k f = is_unwritable k && (is_active f || is_spoiled f)

-- whether an entry makes a check fail
abbrev pub fails : Check → Entry → Bool
fails Present e = removes e.kind e.phase
fails (Readable b) e = stops_reads e.kind e.phase && e.block == b
fails (Writable b) e = stops_writes e.kind e.phase && e.block == b
