-- Each element but 0 is a power of 2: its logarithm, and what divides by it.
use Rattle.std.proofs.Common.{◌≡◌, ℕ, zero, suc, ◌+◌, ◌-◌, ◌<◌, ◌≤◌, cond, eqb, sym, refl, ap, ◌∙◌, inl, inr, arith}
use lib.Bits.{bit_xor, xor_assoc, xor_self, xor_zero_r, xor_lt}
use Rattle.std.proofs.lemmas.Bool.{cases_lt, cases_eq, cond_both, eq-eqb, ne_eqb}
use Rattle.field.specs.Field.{times, power, exponent, log, inverse}
use Rattle.field.specs.Theorems.{Generated}
use Rattle.field.proofs.Powers.{power_lt, power_pos, power_once, power_shift, powers_undo, length_shifts, get_or_shifts}
use Rattle.field.proofs.Tests.{reach}

-- a search that passes over other powers ends at the exponent
exponent_is : (n k j b : ℕ) → k ≤ j → j < k + n → j < 255 → power j ≡ b → exponent n k b ≡ j
unfolding exponent
exponent_is zero k j b l h m e = absurd (omega arith)
exponent_is (suc n) k j b l h m e = elim (cases_eq k j) [
  | inl q ↦ ap (λ t. cond t k (exponent n (suc k) b)) (eq-eqb (power k) b (ap power q ∙ e)) ∙ q
  | inr d ↦
      let other : power k ≡ b → ⊥ = λ f. d (power_once k j (omega arith) m (f ∙ sym e)) in
      ap (λ t. cond t k (exponent n (suc k) b)) (ne_eqb (power k) b other) ∙ exponent_is n (suc k) j b (omega arith) (omega arith) m e
]

-- the logarithm is the one exponent below 255
pub log_is : (k b : ℕ) → k < 255 → power k ≡ b → log b ≡ k
unfolding log
log_is k b h e = exponent_is 255 0 k b (omega arith) (omega arith) h e

-- no search goes past its end
exponent_lt : (n k b m : ℕ) → k + n ≤ m → 0 < m → exponent n k b < m
unfolding exponent
exponent_lt zero k b m h p = p
exponent_lt (suc n) k b m h p =
    cond_both (eqb (power k) b) k (exponent n (suc k) b) (λ x. x < m) (λ e. omega arith) (λ e. exponent_lt n (suc k) b m (omega arith) p)

pub log_lt : (b : ℕ) → log b < 255
unfolding log
log_lt b = exponent_lt 255 0 b 255 (omega arith) (omega arith)

pub log_power : (k : ℕ) → k < 255 → log (power k) ≡ k
log_power k h = log_is k (power k) h refl

-- an exponent of each element but 0
some_exponent : (b : ℕ) → 0 < b → b < 256 → (k : ℕ) × (k < 255) × (power k ≡ b)
some_exponent b p h =
    let r = reach (b - 1) (omega arith) in
    let l : r.0 < 255 = omega (arith, r.1, length_shifts 255 1) in
    (r.0, l, power_shift r.0 ∙ sym (get_or_shifts 255 1 r.0 l) ∙ r.2 ∙ omega arith)

pub power_log : (b : ℕ) → 0 < b → b < 256 → power (log b) ≡ b
power_log b p h = let r = some_exponent b p h in ap power (log_is r.0 b r.1 r.2) ∙ r.2

pub generated : Generated
generated = record {
  above = power_pos;
  below = power_lt;
  each = λ b p h. (log_lt b, power_log b p h);
  once = log_power;
}

-- ---- one over an element
pub inverse_power : (k : ℕ) → k < 255 → inverse (power k) ≡ power (255 - k)
unfolding inverse
inverse_power k h = ap (λ n. power (255 - n)) (log_power k h)

pub inverse_lt : (b : ℕ) → inverse b < 256
unfolding inverse
inverse_lt b = power_lt (255 - log b)

pub divided : (d b : ℕ) → 0 < d → d < 256 → b < 256 → times (inverse d) (times d b) ≡ b
unfolding inverse
divided d b p h l =
    let k = log_lt d in
    ap (λ x. times (power (255 - log d)) (times x b)) (sym (power_log d p h)) ∙ powers_undo (255 - log d) (log d) b (omega arith) l

pub undivided : (d b : ℕ) → 0 < d → d < 256 → b < 256 → times d (times (inverse d) b) ≡ b
unfolding inverse
undivided d b p h l =
    let k = log_lt d in
    ap (λ x. times x (times (power (255 - log d)) b)) (sym (power_log d p h)) ∙ powers_undo (log d) (255 - log d) b (omega arith) l

-- ---- the sum of two powers with distinct exponents is not 0
same_by_xor : (a b : ℕ) → bit_xor a b ≡ 0 → a ≡ b
same_by_xor a b e = sym (xor_zero_r a) ∙ ap (bit_xor a) (sym (xor_self b)) ∙ sym (xor_assoc a b b) ∙ ap (λ x. bit_xor x b) e

pub sum_pos : (i j : ℕ) → i < 255 → j < 255 → (i ≡ j → ⊥) → 0 < bit_xor (power i) (power j)
sum_pos i j hi hj ne = elim (cases_lt 0 (bit_xor (power i) (power j))) [
  | inl h ↦ h
  | inr h ↦ absurd (ne (power_once i j hi hj (same_by_xor (power i) (power j) (omega arith))))
]

pub sum_lt : (i j : ℕ) → bit_xor (power i) (power j) < 256
sum_lt i j = xor_lt 8 (power i) (power j) (power_lt i) (power_lt j)
