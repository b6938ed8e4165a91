-- Three columns stored one after the other.
use Rattle.std.specs.Prelude.{ℕ, ◌+◌, List}
use Rattle.contents.specs.Columns.{Members, Frontiers}
use Rattle.contents.specs.Changes.{Moved, Put, due}

-- v, p and q go to the columns c, k and k + 1 of stripe s, in that order, column t lying on slot place t
pub record Stores (place : ℕ → ℕ) (F : Frontiers) (s k c : ℕ) (v p q : List ℕ) (M N : Members) : Type 0 where
  pub after_own : Members
  pub after_P : Members
  pub own : Moved (Put (due M F s (place c)) s v) (place c) M after_own
  pub P : Moved (Put (due after_own F s (place k)) s p) (place k) after_own after_P
  pub Q : Moved (Put (due after_P F s (place (k + 1))) s q) (place (k + 1)) after_P N
