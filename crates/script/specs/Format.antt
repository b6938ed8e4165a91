-- The bytes of a script, and what stands where in them.
use Rattle.std.specs.Prelude.{ℕ, ◌+◌, ◌*◌, Bool, cond, ◌&&◌, List, length, Some, None, Option, ◌==◌, nat_le, nat_lt, slice_index}
use Rattle.script.specs.declared.parts.Entry.{Entry}
use Rattle.script.specs.declared.parts.Operation.{Operation}
pub use Rattle.notation.specs.Numbers.{number_at}

-- A script begins with three numbers: how many entries it has, how many operations, and its code.
abbrev pub entry_count : List ℕ → ℕ
entry_count xs = number_at xs 0

abbrev pub operation_count : List ℕ → ℕ
operation_count xs = number_at xs 2

abbrev pub code_at : List ℕ → ℕ
code_at xs = number_at xs 4

abbrev pub head_size : ℕ
head_size = 6

-- Then come the entries: a kind byte each, and then three numbers each: round, slot, block.
abbrev pub kinds_from : ℕ
kinds_from = head_size

abbrev pub triples_from : List ℕ → ℕ
triples_from xs = kinds_from + entry_count xs

-- Then come the operations: an operation byte each, and then two numbers each: x and y.
abbrev pub acts_from : List ℕ → ℕ
acts_from xs = triples_from xs + 6 * entry_count xs

abbrev pub pairs_from : List ℕ → ℕ
pairs_from xs = acts_from xs + operation_count xs

-- There the script ends.
abbrev pub script_size : List ℕ → ℕ
script_size xs = pairs_from xs + 4 * operation_count xs

-- A script has at most 16 entries, at most 1,000 operations, a code of 0, 1 or 2, and just the bytes of these.
abbrev pub is_script : List ℕ → Bool
is_script xs =
    nat_le (entry_count xs) 16 && (nat_le (operation_count xs) 1000 && (nat_le (code_at xs) 2 && length xs == script_size xs))

-- entry i, or none where there are fewer
abbrev pub entry_at : List ℕ → ℕ → Option Entry
entry_at xs i =
    cond (nat_lt i (entry_count xs))
    (Some (record {
      kind = slice_index xs (kinds_from + i);
      round = number_at xs (triples_from xs + 6 * i);
      slot = number_at xs (triples_from xs + 6 * i + 2);
      block = number_at xs (triples_from xs + 6 * i + 4);
    }))
    None

-- operation i, or none where there are fewer
abbrev pub operation_at : List ℕ → ℕ → Option Operation
operation_at xs i =
    cond (nat_lt i (operation_count xs))
    (Some (record {
      number = slice_index xs (acts_from xs + i);
      x = number_at xs (pairs_from xs + 4 * i);
      y = number_at xs (pairs_from xs + 4 * i + 2);
    }))
    None
