-- Where blocks stand: the spares of a remap layer, and the blocks that were moved to them.
use Rattle.std.specs.Prelude.{ℕ, zero, suc, ◌+◌, ◌-◌, min, cond, List, [], ◌∷◌, length, Some, None, Option, ◌==◌, nat_lt, slice_index}
use Rattle.remap.specs.declared.moves.Moves.{Moves}

-- how many spares a layer has at most
abbrev pub most_spares : ℕ
most_spares = 16

-- So many spares, and the blocks that the used ones were given to, newest first. Spares are used in order from 0: the spare of
-- the newest move is the number of the moves before it.
pub record Table : Type 0 where
  pub spares : ℕ
  pub moves : List ℕ

-- the blocks that the first n spares were given to, newest first
abbrev pub newest : List ℕ → ℕ → List ℕ
newest xs zero = []
newest xs (suc n) = slice_index xs n ∷ newest xs n

abbrev pub table_of : Moves → Table
table_of x = record { spares = x.spares; moves = newest x.from x.used }

-- how many spares were ever used, and how many are left
abbrev pub used : Table → ℕ
used t = length t.moves

abbrev pub left : Table → ℕ
left t = t.spares - used t

-- of the last blocks of a member of n, as many as are asked, but at most 16
abbrev pub kept_back : ℕ → ℕ → ℕ
kept_back asked n = min n (min asked most_spares)

-- a table without moves
abbrev pub unmoved : ℕ → Table
unmoved n = record { spares = n; moves = [] }

-- the table after block b is moved to the lowest spare never used
abbrev pub moved_on : Table → ℕ → Table
moved_on t b = record { spares = t.spares; moves = b ∷ t.moves }

-- the spare that block b was moved to last, or none
abbrev pub given : List ℕ → ℕ → Option ℕ
given [] b = None
given (x ∷ xs) b = cond (x == b) (Some (length xs)) (given xs b)

abbrev pub standing : ℕ → ℕ → Option ℕ → ℕ
standing first b None = b
standing first b (Some i) = first + i

-- The place of block b in what is below, where `first` is the place of spare 0: its own number until it is moved, then that of the
-- spare that it was moved to last.
abbrev pub place : Table → ℕ → ℕ → ℕ
place t first b = standing first b (given t.moves b)

-- the lowest spare never used, or none
abbrev pub next_spare : Table → Option ℕ
next_spare t = cond (nat_lt (used t) t.spares) (Some (used t)) None

-- the table after that spare, if there is one, is given to block b
abbrev pub spare_taken : Table → ℕ → Table
spare_taken t b = cond (nat_lt (used t) t.spares) (moved_on t b) t
