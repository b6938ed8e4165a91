-- The table of products as text.
use Rattle.std.specs.Prelude.{ℕ, zero, suc, List, [], ◌∷◌, ◌++◌}
use Rattle.notation.specs.Numbers.{hex_digit, hex_byte}
use Rattle.field.specs.Field.{times}

-- the lower-case hexadecimal digit of a number below 16
abbrev pub digit : ℕ → ℕ
digit n = hex_digit n

-- a byte as two digits
abbrev pub hex : ℕ → List ℕ
hex b = hex_byte b

-- the texts f 0, f 1, .. f (n - 1), one after the other
unfoldable pub texts : (ℕ → List ℕ) → ℕ → List ℕ
texts f zero = []
texts f (suc n) = texts f n ++ f n

-- the products of a and the first n elements
abbrev pub row : ℕ → ℕ → List ℕ
row a n = texts (λ b. hex (times a b)) n

-- the line of a: its 256 products, and the end of the line
abbrev pub line : ℕ → List ℕ
line a = row a 256 ++ 10 ∷ []

-- the lines of all elements
abbrev pub table : List ℕ
table = texts line 256
