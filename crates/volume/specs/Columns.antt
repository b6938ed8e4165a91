-- What the calls on one stripe answer and change.
use Rattle.std.specs.Prelude.{◌≡◌, ℕ, true, false, cond, not, ◌&&◌, List, is_some, is_ok, None, Ok, Result}
use Rattle.code.specs.Blocks.{block_size}
use Rattle.member.specs.Meaning.{write_refusal}
use Rattle.member.specs.Changes.{Written}
use Rattle.contents.specs.declared.Refusal.{Refusal}
use Rattle.contents.specs.Refusals.{outcome, answering}
use Rattle.contents.specs.Columns.{Members, Frontiers}
use Rattle.contents.specs.Answers.{unless_lost, after_write}
use Rattle.contents.specs.Shapes.{Shape, Roomy, columns_at, lossy, recovered_at}
use Rattle.contents.specs.Changes.{Moved, Spread, Scrubbed}
use Rattle.contents.specs.Rebuilds.{rebuilt, fault_of}
use Rattle.volume.specs.Tallies.{counted}

-- Column t goes to a buffer. Where it and two others are missing, 4 is answered, and the buffer is left.
pub record ColumnRead (V : Shape) (M : Members) (F : Frontiers) (s t : ℕ) (old new : List ℕ) (r : Result Unit Refusal) : Type 0 where
  pub answered : outcome r ≡ unless_lost (not (is_some (columns_at V M F s t)) && lossy V M F s) V M F s (Ok tt)
  pub after : new ≡ cond (is_ok r) (recovered_at V M F s t) old

-- The other calls answer 4 where three or more columns are missing, and then change nothing.

-- data column c is given these bytes, and P and Q follow
pub record ColumnWritten (V : Shape) (M : Members) (F : Frontiers) (s c : ℕ) (v : List ℕ) (N : Members) (r : Result ℕ Refusal) : Type 0 where
  pub answered : outcome r ≡ unless_lost (lossy V M F s) V M F s (after_write V N F s)
  pub taken : lossy V M F s ≡ false → Spread V M F s c v N
  pub refused : lossy V M F s ≡ true → N ≡ M

-- the unreadable columns are written anew
pub record StripeScrubbed (V : Shape) (M : Members) (F : Frontiers) (s : ℕ) (N : Members) (r : Result (ℕ × ℕ × ℕ) Refusal) : Type 0 where
  pub answered : outcome r ≡ unless_lost (lossy V M F s) V M F s (Ok (counted V M F s))
  pub taken : lossy V M F s ≡ false → Scrubbed V M F s N
  pub refused : lossy V M F s ≡ true → N ≡ M

-- what is recovered goes to slot i, whose member answers, and whose fault is carried
pub record ColumnRebuilt (V : Shape) (M : Members) (F : Frontiers) (s i : ℕ) (N : Members) (r : Result Unit Refusal) : Type 0 where
  pub answered : Roomy V M → outcome r ≡ unless_lost (lossy V M F s) V M F s (answering tt (rebuilt (write_refusal (M i) s block_size) s))
  pub fault : Roomy V M → fault_of r ≡ cond (lossy V M F s) None (write_refusal (M i) s block_size)
  pub taken : lossy V M F s ≡ false → Moved (λ m n. Written m s (recovered_at V M F s (V.back s i)) n) i M N
  pub refused : lossy V M F s ≡ true → N ≡ M
