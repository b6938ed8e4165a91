-- Where the columns of a stripe lie: each column below n on a slot below n.
use Rattle.std.specs.Prelude.{◌≡◌, ℕ, ◌+◌, ◌-◌, ◌%◌, ◌<◌, ◌≤◌, cond, nat_lt}

-- The law of a layout, for n slots and one stripe: the slot of a column and the column of a slot stay below n and undo each
-- other there, and a number that is not below n is answered unchanged.
pub record Placing (n : ℕ) (slot column : ℕ → ℕ) : Type 0 where
  pub slot_below : (c : ℕ) → c < n → slot c < n
  pub column_below : (i : ℕ) → i < n → column i < n
  pub there : (c : ℕ) → c < n → column (slot c) ≡ c
  pub back : (i : ℕ) → i < n → slot (column i) ≡ i
  pub slot_beyond : (c : ℕ) → n ≤ c → slot c ≡ c
  pub column_beyond : (i : ℕ) → n ≤ i → column i ≡ i

-- the rotating layout puts column c of stripe s on slot (c + s) mod n
abbrev pub rotated : ℕ → ℕ → ℕ → ℕ
rotated n s c = cond (nat_lt c n) ((c + s) % n) c

-- and so slot i has column (i − s) mod n
abbrev pub unrotated : ℕ → ℕ → ℕ → ℕ
unrotated n s i = cond (nat_lt i n) ((i + (n - s % n)) % n) i
