-- How numbers and bytes are written.
use Rattle.std.specs.Prelude.{ℕ, ◌+◌, ◌*◌, ◌/◌, ◌%◌, cond, List, [], ◌∷◌, nat_lt, slice_index}

-- the 16-bit little-endian number at place i; bytes past the end count as 0
abbrev pub number_at : List ℕ → ℕ → ℕ
number_at xs i = slice_index xs i + 256 * slice_index xs (i + 1)

-- 0 to 9, then a to f
abbrev pub hex_digit : ℕ → ℕ
hex_digit d = cond (nat_lt d 10) (48 + d) (87 + d)

-- a byte as two lower-case hexadecimal digits
abbrev pub hex_byte : ℕ → List ℕ
hex_byte b = hex_digit (b / 16) ∷ hex_digit (b % 16) ∷ []
