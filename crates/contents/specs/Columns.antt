-- The column of a stripe on a slot: current, or missing with the first cause; its bytes; and counts and masks over the slots.
use Rattle.std.specs.Prelude.{ℕ, zero, suc, ◌+◌, ◌^◌, Bool, true, false, cond, List, is_some, None, Option, nat_lt}
use Rattle.member.specs.Meaning.{Meaning}
use Rattle.contents.specs.declared.Loss.{Loss}
use Rattle.contents.specs.declared.Status.{Status}
use Rattle.contents.specs.declared.Status.TheVariants.{Current, Gone, Behind, Unreadable}

-- the member in each slot
abbrev pub Members : Type 0
Members = ℕ → Meaning

-- the frontier of each slot: the stripes below it are in the member
abbrev pub Frontiers : Type 0
Frontiers = ℕ → ℕ

-- Block s of a slot carries its column of stripe s. The column is current if its member is present, s is below the slot's frontier
-- and the block is readable. Otherwise it is missing, with the first cause of gone, behind, unreadable.
unfoldable pub status : Members → Frontiers → ℕ → ℕ → Status
status M F s i = cond (M i).gone Gone (cond (nat_lt s (F i)) (cond (is_some ((M i).block s)) Current Unreadable) Behind)

abbrev pub is_current : Status → Bool
is_current Current = true
is_current Gone = false
is_current Behind = false
is_current Unreadable = false

abbrev pub is_gone : Status → Bool
is_gone Current = false
is_gone Gone = true
is_gone Behind = false
is_gone Unreadable = false

abbrev pub is_behind : Status → Bool
is_behind Current = false
is_behind Gone = false
is_behind Behind = true
is_behind Unreadable = false

abbrev pub is_unreadable : Status → Bool
is_unreadable Current = false
is_unreadable Gone = false
is_unreadable Behind = false
is_unreadable Unreadable = true

-- absent is gone or behind
abbrev pub is_absent : Status → Bool
is_absent Current = false
is_absent Gone = true
is_absent Behind = true
is_absent Unreadable = false

-- the bytes of the column of stripe s on slot i, if it is current
unfoldable pub held : Members → Frontiers → ℕ → ℕ → Option (List ℕ)
held M F s i = cond (is_current (status M F s i)) ((M i).block s) None

-- the columns of stripe s, column c lying on slot place s c
abbrev pub columns : Members → Frontiers → (ℕ → ℕ → ℕ) → ℕ → ℕ → Option (List ℕ)
columns M F place s c = held M F s (place s c)

-- how many numbers below n have p
unfoldable pub count : (ℕ → Bool) → ℕ → ℕ
count p zero = 0
count p (suc n) = count p n + cond (p n) 1 0

-- the mask with bit i set for each i below n that has p
unfoldable pub mask : (ℕ → Bool) → ℕ → ℕ
mask p zero = 0
mask p (suc n) = mask p n + cond (p n) (2 ^ n) 0

-- what is lost of stripe s on the first n slots
unfoldable pub loss_of : Members → Frontiers → ℕ → ℕ → Loss
loss_of M F n s = record {
  stripe = s;
  gone = mask (λ i. is_gone (status M F s i)) n;
  behind = mask (λ i. is_behind (status M F s i)) n;
  unreadable = mask (λ i. is_unreadable (status M F s i)) n;
}
