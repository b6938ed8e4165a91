-- What the calls on a volume do to its members. V is the shape, M the members and F the frontiers before the call, N the members
-- after it. Frontiers are left by all of them. A call that only asks, and a read, leave the members: N ≡ M.
use Rattle.std.specs.Prelude.{◌≡◌, ℕ, ◌+◌, ◌<◌, Bool, true, false, cond, List, length, ◌≢◌, nat_lt}
use Rattle.code.specs.Blocks.{◌⊕◌, zeros}
use Rattle.member.specs.Meaning.{Meaning}
use Rattle.member.specs.Changes.{Written, Ticked}
use Rattle.contents.specs.Columns.{Members, Frontiers, status, is_unreadable}
use Rattle.contents.specs.Shapes.{Shape, data_columns, stripe_of, column_of, recovered_at}
use Rattle.contents.specs.Answers.{write_takes, scrub_takes}

-- the member in slot i moves as R allows, and every other member keeps its meaning
pub record Moved (R : Meaning → Meaning → Type 0) (i : ℕ) (M N : Members) : Type 0 where
  pub here : R (M i) (N i)
  pub others : (j : ℕ) → (j ≢ i) → N j ≡ M j

-- n moves one after the other, from M to N, move i as R i allows
pub record Steps (n : ℕ) (R : ℕ → Members → Members → Type 0) (M N : Members) : Type 0 where
  pub at : ℕ → Members
  pub begins : at 0 ≡ M
  pub ends : at n ≡ N
  pub each : (i : ℕ) → i < n → R i (at i) (at (i + 1))

-- v goes to block s of a member if it is due there, else the member keeps its meaning
pub record Put (due : Bool) (s : ℕ) (v : List ℕ) (m n : Meaning) : Type 0 where
  pub written : due ≡ true → Written m s v n
  pub kept : due ≡ false → n ≡ m

-- ---- write

-- a column of a write goes to a slot whose member is present and whose frontier is above s, unreadable or not
abbrev pub due : Members → Frontiers → ℕ → ℕ → Bool
due M F s i = cond (M i).gone false (nat_lt s (F i))

-- what is added to data column c as it is given v
abbrev pub difference : Shape → Members → Frontiers → ℕ → ℕ → List ℕ → List ℕ
difference V M F s c v = recovered_at V M F s c ⊕ v

-- P and Q as data column c is given v
abbrev pub new_P : Shape → Members → Frontiers → ℕ → ℕ → List ℕ → List ℕ
new_P V M F s c v = recovered_at V M F s (data_columns V) ⊕ difference V M F s c v

abbrev pub new_Q : Shape → Members → Frontiers → ℕ → ℕ → List ℕ → List ℕ
new_Q V M F s c v = recovered_at V M F s (data_columns V + 1) ⊕ V.code.mix c (difference V M F s c v)

-- v goes to column t of stripe s
abbrev pub Stored : Shape → Members → Frontiers → ℕ → ℕ → List ℕ → Members → Members → Type 0
Stored V M F s t v A B = Moved (Put (due M F s (V.place s t)) s v) (V.place s t) A B

-- the new data column c of stripe s, P and Q, in that order
pub record Spread (V : Shape) (M : Members) (F : Frontiers) (s c : ℕ) (v : List ℕ) (N : Members) : Type 0 where
  pub after_own : Members
  pub after_P : Members
  pub own : Stored V M F s c v M after_own
  pub P : Stored V M F s (data_columns V) (new_P V M F s c v) after_own after_P
  pub Q : Stored V M F s (data_columns V + 1) (new_Q V M F s c v) after_P N

-- a write of v to block a; one that is not taken changes nothing
pub record WriteChanges (V : Shape) (M : Members) (F : Frontiers) (a : ℕ) (v : List ℕ) (N : Members) : Type 0 where
  pub taken : write_takes V M F a (length v) ≡ true → Spread V M F (stripe_of V a) (column_of V a) v N
  pub refused : write_takes V M F a (length v) ≡ false → N ≡ M

-- ---- scrub

-- each unreadable column of stripe s is written anew, in slot order
abbrev pub Scrubbed : Shape → Members → Frontiers → ℕ → Members → Type 0
Scrubbed V M F s N =
    Steps V.slots (λ i. Moved (Put (is_unreadable (status M F s i)) s (recovered_at V M F s (V.back s i))) i) M N

-- a scrub of stripe s; one that is not taken changes nothing
pub record ScrubChanges (V : Shape) (M : Members) (F : Frontiers) (s : ℕ) (N : Members) : Type 0 where
  pub taken : scrub_takes V M F s ≡ true → Scrubbed V M F s N
  pub refused : scrub_takes V M F s ≡ false → N ≡ M

-- ---- tick and format

-- the members tick in slot order
abbrev pub TickChanges : Shape → Members → Members → Type 0
TickChanges V M N = Steps V.slots (λ i. Moved Ticked i) M N

-- zeros go to block s of every slot
abbrev pub Zeroed : Shape → ℕ → Members → Members → Type 0
Zeroed V s M N = Steps V.slots (λ i. Moved (λ m n. Written m s zeros n) i) M N

-- s rising over the stripes
abbrev pub FormatChanges : Shape → Members → Members → Type 0
FormatChanges V M N = Steps V.stripes (λ s. Zeroed V s) M N
