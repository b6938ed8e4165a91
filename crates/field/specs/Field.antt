-- The field of 256 elements. A number below 256 is the polynomial over bits, of degree below 8, whose coefficients are its
-- binary digits. A sum is the exclusive or; a product is reduced modulo x^8 + x^4 + x^3 + x^2 + 1 (0x11D).
use Rattle.std.specs.Prelude.{ℕ, zero, suc, ◌-◌, ◌*◌, ◌/◌, ◌%◌, cond, ◌==◌, bit_xor, nat_lt}

-- x times a polynomial, reduced
abbrev pub shifted : ℕ → ℕ
shifted a = cond (nat_lt a 128) (a * 2) (bit_xor (a * 2) 0x11D)

-- a where the digit is not 0, else 0
abbrev pub chosen : ℕ → ℕ → ℕ
chosen zero a = 0
chosen (suc d) a = a

-- the product of a and the polynomial of b's lowest n digits: shift and add, each shift reduced
unfoldable pub product : ℕ → ℕ → ℕ → ℕ
product zero a b = 0
product (suc n) a b = bit_xor (chosen (b % 2) a) (product n (shifted a) (b / 2))

-- the product of two elements
unfoldable pub times : ℕ → ℕ → ℕ
times a b = product 8 a b

-- 2 to the power j
unfoldable pub power : ℕ → ℕ
power zero = 1
power (suc j) = times 2 (power j)

-- the first exponent, of the n from k on, at which the power of 2 is b; 0 where there is none
unfoldable pub exponent : ℕ → ℕ → ℕ → ℕ
exponent zero k b = 0
exponent (suc n) k b = cond (power k == b) k (exponent n (suc k) b)

-- the exponent below 255 at which the power of 2 is b
unfoldable pub log : ℕ → ℕ
log b = exponent 255 0 b

-- one over b: 2 to the power 255 is 1
unfoldable pub inverse : ℕ → ℕ
inverse b = power (255 - log b)
