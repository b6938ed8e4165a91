-- The lines of a report, as text.
use Rattle.std.specs.Prelude.{ℕ, zero, suc, ◌+◌, ◌-◌, ◌/◌, ◌%◌, Bool, true, cond, List, [], ◌∷◌, ◌++◌, codes, decimal}
pub use Rattle.notation.specs.Numbers.{hex_digit}

-- two lower-case hexadecimal digits for each byte
unfoldable pub hex : List ℕ → List ℕ
hex [] = []
hex (b ∷ bs) = hex_digit (b / 16) ∷ (hex_digit (b % 16) ∷ hex bs)

-- a parity column: its letter, a space, its bytes
abbrev pub parity_line : List ℕ → List ℕ → List ℕ
parity_line letter block = letter ++ (codes " " ++ (hex block ++ codes "\n"))

-- that the columns i and j were lost, and whether both came back
abbrev pub pair_line : ℕ → ℕ → Bool → List ℕ
pair_line i j recovered = decimal i ++ (codes " " ++ (decimal j ++ (codes " " ++ (cond recovered (codes "recovered") (codes "differs") ++ codes "\n"))))

-- the lines of the pairs i, j for m columns j from a on
unfoldable pub lines_with : ℕ → ℕ → ℕ → List ℕ
lines_with i a zero = []
lines_with i a (suc m) = lines_with i a m ++ pair_line i (a + m) true

-- the lines of the pairs i < j below n, for each i below m
unfoldable pub lines_below : ℕ → ℕ → List ℕ
lines_below n zero = []
lines_below n (suc i) = lines_below n i ++ lines_with i (i + 1) (n - (i + 1))

-- how many pairs i < j there are below n
unfoldable pub pairs : ℕ → ℕ
pairs zero = 0
pairs (suc n) = pairs n + n

abbrev pub count_line : ℕ → List ℕ
count_line n = decimal n ++ codes "\n"
