-- A chain of members: what it is made of, what it means, and what a call makes of it.
use Rattle.std.specs.Prelude.{ℕ, zero, suc, []}
use Rattle.member.specs.Meaning.{Meaning}
use Rattle.member.specs.Runs.{run_meaning}
use Rattle.bank.specs.Slots.{Slots}

-- x at 0, and what f has at k one further
abbrev pub before : {X : Type 0} → X → (ℕ → X) → ℕ → X
before x f zero = x
before x f (suc k) = f k

-- no member; the slots beyond the list hold, as it were, a member without blocks
abbrev pub no_members : Slots
no_members = record { size = 0; member = λ _. run_meaning 0 [] }

-- a member in slot 0, before the members of a list, which stand one slot further each
abbrev pub linked_slots : Meaning → Slots → Slots
linked_slots m ms = record { size = suc ms.size; member = before m ms.member }

-- a chain is made of its first member and the rest
pub record Linked (S T : Type 0) : Type 0 where
  pub first : S
  pub rest : T

abbrev pub linked : {S T : Type 0} → S → T → Linked S T
linked s t = record { first = s; rest = t }

-- both parts are sound
pub record LinkedSound {S T : Type 0} (P : S → Type 0) (Q : T → Type 0) (s : Linked S T) : Type 0 where
  pub first : P s.first
  pub rest : Q s.rest

abbrev pub linked_meaning : {S T : Type 0} → (S → Meaning) → (T → Slots) → Linked S T → Slots
linked_meaning m ms s = linked_slots (m s.first) (ms s.rest)

-- at slot 0 the first member changes by f, at slot k + 1 the rest by g at its slot k; the other part stays
abbrev pub linked_change : {S T : Type 0} → (S → S) → (T → ℕ → T) → Linked S T → ℕ → Linked S T
linked_change f g s i = before (linked (f s.first) s.rest) (λ k. linked s.first (g s.rest k)) i
