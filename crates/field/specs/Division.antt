-- Products as polynomials are multiplied by hand: the plain product, and what long division leaves of it.
use Rattle.std.specs.Prelude.{ℕ, zero, suc, ◌+◌, ◌*◌, ◌/◌, ◌%◌, ◌^◌, cond, bit_xor, nat_lt}
use Rattle.field.specs.Field.{chosen}

-- the product of a and the polynomial of b's lowest n digits, not reduced
unfoldable pub plain : ℕ → ℕ → ℕ → ℕ
plain zero a b = 0
plain (suc n) a b = bit_xor (chosen (b % 2) a) (plain n (a * 2) (b / 2))

-- one step of long division by 0x11D, of a polynomial of degree at most 8 + n: where its top digit is 1, the divisor is taken
-- away from under it
abbrev pub step : ℕ → ℕ → ℕ
step n c = cond (nat_lt c (2 ^ (8 + n))) c (bit_xor c (0x11D * 2 ^ n))

-- what long division by 0x11D leaves of a polynomial of degree below 8 + n, from the top digit down
unfoldable pub remainder : ℕ → ℕ → ℕ
remainder zero c = c
remainder (suc n) c = remainder n (step n c)
