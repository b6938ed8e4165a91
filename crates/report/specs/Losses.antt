-- A stripe with nothing missing, and two of its columns taken away.
use Rattle.std.specs.Prelude.{◌≡◌, ℕ, ◌+◌, ◌<◌, ◌≤◌, cond, ◌==◌, List, [], length, None, Some, Option, slice_index_or}
use Rattle.code.specs.Codes.{Coding}
use Rattle.parity.specs.Stripe.{Content, column}
use Rattle.recovery.specs.Columns.{content}

-- all columns of a stripe of k data columns: its data, and what the code gives for P and Q
pub record Whole (C : Coding) (k : ℕ) (blocks : List (List ℕ)) : Type 0 where
  pub count : length blocks ≡ k + 2
  pub limit : k ≤ C.limit
  pub sized : Content k (content blocks)
  pub columns : (t : ℕ) → t < k + 2 → slice_index_or blocks t [] ≡ column C k (content blocks) t

-- blocks are the columns of a stripe whose data columns are given
pub record Made (given blocks : List (List ℕ)) : Type 0 where
  pub count : length blocks ≡ length given + 2
  pub kept : (i : ℕ) → i < length given → content blocks i ≡ content given i

-- the columns of a stripe, of which i and j are missing
abbrev pub without : List (List ℕ) → ℕ → ℕ → ℕ → Option (List ℕ)
without blocks i j t = cond (t == i) None (cond (t == j) None (Some (slice_index_or blocks t [])))
