-- The product is linear in each factor.
use Rattle.std.proofs.Common.{◌≡◌, ℕ, zero, suc, ◌/◌, ◌%◌, ◌<◌, sym, refl, ap, ◌∙◌, ap₂, mod-lt, zero-lt-suc, arith, lit<}
use lib.Bits.{bit_xor, xor_self, xor_zero_r, xor_lt, xor_shr, xor_mod}
use Rattle.code.proofs.Blocks.{xor_four}
use Rattle.field.specs.Field.{shifted, chosen, product}
use Rattle.field.proofs.Steps.{shifted_xor, shifted_lt}

pub chosen_below : (d a w : ℕ) → 0 < w → a < w → chosen d a < w
chosen_below zero a w p h = p
chosen_below (suc d) a w p h = h

pub chosen_lt : (d a : ℕ) → a < 256 → chosen d a < 256
chosen_lt d a h = chosen_below d a 256 (lit< tt) h

pub product_lt : (n a b : ℕ) → a < 256 → product n a b < 256
unfolding product
product_lt zero a b h = lit< tt
product_lt (suc n) a b h = xor_lt 8 _ _ (chosen_lt (b % 2) a h) (product_lt n (shifted a) (b / 2) (shifted_lt a h))

-- digits: the digit of a ⊕ is the ⊕ of the digits
chosen_at : (d e a : ℕ) → d < 2 → e < 2 → chosen (bit_xor d e) a ≡ bit_xor (chosen d a) (chosen e a)
chosen_at zero e a p q = refl
chosen_at (suc zero) zero a p q = sym (xor_zero_r a)
chosen_at (suc zero) (suc zero) a p q = sym (xor_self a)
chosen_at (suc zero) (suc (suc e)) a p q = absurd (omega arith)
chosen_at (suc (suc d)) e a p q = absurd (omega arith)

chosen_xor : (d a b : ℕ) → chosen d (bit_xor a b) ≡ bit_xor (chosen d a) (chosen d b)
chosen_xor zero a b = refl
chosen_xor (suc d) a b = refl

chosen_shifted : (d a : ℕ) → chosen d (shifted a) ≡ shifted (chosen d a)
chosen_shifted zero a = refl
chosen_shifted (suc d) a = refl

-- linear in the second factor, at all numbers
pub product_xor : (n a x y : ℕ) → product n a (bit_xor x y) ≡ bit_xor (product n a x) (product n a y)
unfolding product
product_xor zero a x y = refl
product_xor (suc n) a x y =
    ap₂ bit_xor
    (ap (λ d. chosen d a) (xor_mod x y 1) ∙ chosen_at (x % 2) (y % 2) a (mod-lt x (zero-lt-suc 1)) (mod-lt y (zero-lt-suc 1)))
    (ap (product n (shifted a)) (xor_shr x y 1) ∙ product_xor n (shifted a) (x / 2) (y / 2))
    ∙ xor_four (chosen (x % 2) a) (chosen (y % 2) a) (product n (shifted a) (x / 2)) (product n (shifted a) (y / 2))

-- linear in the first factor, at bytes
pub xor_product : (n a b x : ℕ) → a < 256 → b < 256 → product n (bit_xor a b) x ≡ bit_xor (product n a x) (product n b x)
unfolding product
xor_product zero a b x ha hb = refl
xor_product (suc n) a b x ha hb =
    ap₂ bit_xor
    (chosen_xor (x % 2) a b)
    (ap (λ s. product n s (x / 2)) (shifted_xor a b ha hb) ∙ xor_product n (shifted a) (shifted b) (x / 2) (shifted_lt a ha) (shifted_lt b hb))
    ∙ xor_four (chosen (x % 2) a) (chosen (x % 2) b) (product n (shifted a) (x / 2)) (product n (shifted b) (x / 2))

-- a shift of a factor is a shift of the product
pub product_shifted : (n a x : ℕ) → a < 256 → product n (shifted a) x ≡ shifted (product n a x)
unfolding product
product_shifted zero a x h = refl
product_shifted (suc n) a x h =
    ap₂ bit_xor (chosen_shifted (x % 2) a) (product_shifted n (shifted a) (x / 2) (shifted_lt a h))
    ∙ sym (shifted_xor (chosen (x % 2) a) (product n (shifted a) (x / 2)) (chosen_lt (x % 2) a h) (product_lt n (shifted a) (x / 2) (shifted_lt a h)))
