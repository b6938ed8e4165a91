-- A product by terms: those of a, 2a, 4a, .. at which the other factor has the digit 1, added up.
use Rattle.std.specs.Prelude.{ℕ, zero, suc, ◌/◌, ◌%◌, List, [], ◌∷◌, bit_xor}
use Rattle.field.specs.Field.{shifted, chosen}

-- a and its next shifts, n elements in all
unfoldable pub shifts : ℕ → ℕ → List ℕ
shifts zero a = []
shifts (suc n) a = a ∷ shifts n (shifted a)

-- the sum of the terms at whose place b has the digit 1
unfoldable pub summed : List ℕ → ℕ → ℕ
summed [] b = 0
summed (t ∷ ts) b = bit_xor (chosen (b % 2) t) (summed ts (b / 2))
