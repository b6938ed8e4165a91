-- The answers of a code's functions, as numbers.
use Rattle.std.specs.Prelude.{ℕ, Bool, cond, not, ◌&&◌, List, length, Ok, Err, Result, ◌==◌, nat_lt}
use Rattle.code.specs.declared.CodeRefusal.{CodeRefusal}
use Rattle.code.specs.declared.CodeRefusal.TheVariants.{Column, Length}
use Rattle.code.specs.Blocks.{block_size}

-- the number of each refusal
abbrev pub number : CodeRefusal → ℕ
number Column = 2
number Length = 3

-- 0 for a call that is taken, else the refusal's number
abbrev pub answer : {U : Type 0} → Result U CodeRefusal → ℕ
answer (Ok u) = 0
answer (Err e) = number e

-- a buffer has a block's length
abbrev pub sized : List ℕ → Bool
sized b = length b == block_size

-- a call on buffers alone
abbrev pub on_buffers : Bool → ℕ
on_buffers good = cond good 0 3

-- a call on column j under the limit w: the buffers are looked at first
abbrev pub on_column : ℕ → ℕ → Bool → ℕ
on_column w j good = cond good (cond (nat_lt j w) 0 2) 3

-- a call on the columns i and j
abbrev pub on_pair : ℕ → ℕ → ℕ → Bool → ℕ
on_pair w i j good = cond good (cond (nat_lt i w && (nat_lt j w && not (i == j))) 0 2) 3
