-- The refusal and the value of a line.
use Rattle.std.specs.Prelude.{ℕ, bit_or, slice_index}
use Rattle.contents.specs.Refusals.{Told}
use Rattle.history.specs.Calls.{Answer}
use Rattle.history.specs.Calls.Answer.{done, bytes, number, counts, order, refused}

-- the slots that three masks name, whatever the cause
abbrev pub union_of : ℕ → ℕ → ℕ → ℕ
union_of gone behind unreadable = bit_or (bit_or gone behind) unreadable

-- a refusal: its number, and the union of its masks, which is 0 where it carries none
abbrev pub refused_line : Told → ℕ × ℕ
refused_line t = (t.number, union_of t.gone t.behind t.unreadable)

-- what a call answered: 0 and the first byte read, the number answered or the number mended; or its refusal
abbrev pub line_of : Answer → ℕ × ℕ
line_of done = (0, 0)
line_of (bytes b) = (0, slice_index b 0)
line_of (number n) = (0, n)
line_of (counts mended kept_out absent) = (0, mended)
line_of (order i) = (0, 0)
line_of (refused t) = refused_line t

-- an operation that is not known
abbrev pub unknown_line : ℕ × ℕ
unknown_line = (10, 0)
