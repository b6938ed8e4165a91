-- What a scrub counts, slot by slot.
use Rattle.std.specs.Prelude.{ℕ, ◌+◌, Bool, cond, not, ◌&&◌}
use Rattle.contents.specs.Columns.{Members, Frontiers, status, is_unreadable, is_absent, count}
use Rattle.contents.specs.declared.Status.{Status}
use Rattle.contents.specs.Shapes.{Shape}
use Rattle.contents.specs.Answers as answers
use Rattle.volume.specs.declared.survey.Tally.{Tally}

-- the columns of stripe s on the first n slots: unreadable ones whose member takes the write, those whose member refuses it, and
-- those that are gone or behind
abbrev pub tally_of : Members → Frontiers → ℕ → ℕ → Tally
tally_of M F s n = record {
  mended = count (λ i. is_unreadable (status M F s i) && answers.takes (M i) s) n;
  refused = count (λ i. is_unreadable (status M F s i) && not (answers.takes (M i) s)) n;
  absent = count (λ i. is_absent (status M F s i)) n;
}

-- one more column that is not unreadable
abbrev pub with_standing : Tally → Status → Tally
with_standing t x = record { mended = t.mended; refused = t.refused; absent = t.absent + cond (is_absent x) 1 0 }

-- one more unreadable column, whose write was taken or refused
abbrev pub with_mend : Tally → Bool → Tally
with_mend t taken = record { mended = t.mended + cond taken 1 0; refused = t.refused + cond taken 0 1; absent = t.absent }

-- the three numbers that a scrub answers
abbrev pub counted : Shape → Members → Frontiers → ℕ → ℕ × ℕ × ℕ
counted V M F s = (answers.mended V M F s, answers.refused V M F s, answers.absent V M F s)
