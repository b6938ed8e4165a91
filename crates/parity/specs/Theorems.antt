-- What holds of every lawful code, for k data columns up to its limit.
use Rattle.std.specs.Prelude.{◌≡◌, ℕ, ◌+◌, ◌<◌, ◌≤◌, true, false, ◌⊎◌, List, is_some, Option, ◌≢◌}
use Rattle.code.specs.Blocks.{Block, block_size, ◌⊕◌}
use Rattle.code.specs.Codes.{Coding, Lawful}
use Rattle.parity.specs.Stripe.{Content, column, Holds, Fits, missing, put}
use Rattle.parity.specs.Ways.{recovered}

-- with at most two columns missing, the recovered column is that of every content that fits
abbrev pub Recovers : Type 0
Recovers = (C : Coding) → Lawful block_size C → (k : ℕ) → k ≤ C.limit → (cols : ℕ → Option (List ℕ)) (c : ℕ → List ℕ) → Content k c
    → Fits C k c cols → missing cols (k + 2) ≤ 2 → (t : ℕ) → t < k + 2 → recovered C k cols t ≡ column C k c t

-- two contents that fit agree at a column that is present, and everywhere if at most two are missing
abbrev pub Unique : Type 0
Unique = (C : Coding) → Lawful block_size C → (k : ℕ) → k ≤ C.limit → (cols : ℕ → Option (List ℕ)) (c d : ℕ → List ℕ) → Content k c → Content k d
    → Fits C k c cols → Fits C k d cols → (t : ℕ) → t < k + 2 → (is_some (cols t) ≡ true) ⊎ (missing cols (k + 2) ≤ 2) → column C k c t ≡ column C k d t

-- with data column i and at least two others missing, another content fits that differs at i
abbrev pub Free : Type 0
Free = (C : Coding) → Lawful block_size C → (k : ℕ) → k ≤ C.limit → (cols : ℕ → Option (List ℕ)) (c : ℕ → List ℕ) → Content k c
    → Fits C k c cols → (i : ℕ) → i < k → is_some (cols i) ≡ false → 3 ≤ missing cols (k + 2)
    → (d : ℕ → List ℕ) × Content k d × Fits C k d cols × (d i ≢ c i)

-- P and Q after data column i was changed to v: the difference is added to P, and its mixing i to Q
abbrev pub Deltas : Type 0
Deltas = (C : Coding) → Lawful block_size C → (k : ℕ) → k ≤ C.limit → (c : ℕ → List ℕ) → Content k c → (i : ℕ) → i < k → (v : List ℕ) → Block v
    → (column C k (put c i v) k ≡ column C k c k ⊕ (c i ⊕ v))
    × (column C k (put c i v) (k + 1) ≡ column C k c (k + 1) ⊕ C.mix i (c i ⊕ v))

-- a column t after a write to data column i: it holds what the new content d gives, or is another data column as it was
abbrev pub Kept : Coding → ℕ → (ℕ → List ℕ) → ℕ → Option (List ℕ) → Option (List ℕ) → ℕ → Type 0
Kept C k d i old new t = Holds new (column C k d t) ⊎ ((t < k) × (t ≢ i) × (new ≡ old))

-- if every column is so after a write of v to data column i, the changed content fits
abbrev pub Writes : Type 0
Writes = (C : Coding) (k : ℕ) (old new : ℕ → Option (List ℕ)) (c : ℕ → List ℕ) (i : ℕ) (v : List ℕ) → Fits C k c old
    → ((t : ℕ) → t < k + 2 → Kept C k (put c i v) i (old t) (new t) t) → Fits C k (put c i v) new
