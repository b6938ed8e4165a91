-- One step of the division by 0x11D, which clears a polynomial's top digit, keeps sums; a shift is a doubling and such a step.
use Rattle.std.proofs.Common.{◌≡◌, ℕ, suc, ◌+◌, ◌*◌, ◌/◌, ◌^◌, ◌<◌, ◌≤◌, cond, ◌⊎◌, sym, ap, ◌∙◌, subst, ap₂, inl, inr, add-zero, add-suc, arith, lit<}
use native.Mathlib.Nat.{mul-div-mul_right, pow-succ'}
use lib.Bits.{bit_xor, xor_assoc, xor_comm, xor_self, xor_zero_r, xor_lt, xor_shr, xor_block}
use Rattle.std.proofs.lemmas.Nat.{pow_pos, pow-add, div_below, le-div}
use Rattle.std.proofs.lemmas.Bool.{cases_lt, lt-ltb, le-ltb}
use Rattle.code.proofs.Blocks.{xor_four}
use Rattle.field.specs.Field.{shifted}
use Rattle.field.specs.Division.{step}

twice_xor : (a b : ℕ) → bit_xor a b * 2 ≡ bit_xor (a * 2) (b * 2)
twice_xor a b = sym (simp add-zero at (xor_block 1 a b 0 0 (lit< tt) (lit< tt)))

shifted_low : (a : ℕ) → a < 128 → shifted a ≡ a * 2
shifted_low a h = ap (λ t. cond t (a * 2) (bit_xor (a * 2) 0x11D)) (lt-ltb a 128 h)

shifted_high : (a : ℕ) → 128 ≤ a → shifted a ≡ bit_xor (a * 2) 0x11D
shifted_high a h = ap (λ t. cond t (a * 2) (bit_xor (a * 2) 0x11D)) (le-ltb a 128 h)

-- ---- the top digit, as a quotient
low_top : (c w : ℕ) → 0 < w → c < w → c / w ≡ 0
low_top c w p h = let q : c / w < 1 = div_below c w 1 p (omega arith) in omega arith

high_top : (c w : ℕ) → 0 < w → w ≤ c → c < 2 * w → c / w ≡ 1
high_top c w p h l =
    let q : c / w < 2 = div_below c w 2 p (omega arith) in
    let r : 1 ≤ c / w = le-div 1 c w p (omega arith) in
    omega arith

top_low : (c w : ℕ) → 0 < w → c / w ≡ 0 → c < w
top_low c w p e = elim (cases_lt c w) [
  | inl h ↦ h
  | inr h ↦ let r : 1 ≤ c / w = le-div 1 c w p (omega arith) in absurd (omega arith)
]

top_high : (c w : ℕ) → 0 < w → c / w ≡ 1 → w ≤ c
top_high c w p e = elim (cases_lt c w) [
  | inl h ↦ let q : c / w < 1 = div_below c w 1 p (omega arith) in absurd (omega arith)
  | inr h ↦ h
]

-- ---- one step of the division
pub wider : (n : ℕ) → 2 ^ (8 + suc n) ≡ 2 * 2 ^ (8 + n)
wider n = ap (λ k. 2 ^ k) (add-suc 8 n) ∙ pow-succ' 2 (8 + n)

divisor_top : (n : ℕ) → 0x11D * 2 ^ n / 2 ^ (8 + n) ≡ 1
divisor_top n = ap (λ w. 0x11D * 2 ^ n / w) (pow-add 2 8 n) ∙ mul-div-mul_right {m = 2 ^ n} 0x11D 256 (pow_pos n)

pub step_low : (n c : ℕ) → c < 2 ^ (8 + n) → step n c ≡ c
step_low n c h = ap (λ t. cond t c (bit_xor c (0x11D * 2 ^ n))) (lt-ltb c (2 ^ (8 + n)) h)

step_high : (n c : ℕ) → 2 ^ (8 + n) ≤ c → step n c ≡ bit_xor c (0x11D * 2 ^ n)
step_high n c h = ap (λ t. cond t c (bit_xor c (0x11D * 2 ^ n))) (le-ltb c (2 ^ (8 + n)) h)

-- the top digit of a sum
sum_top : (n c d x y : ℕ) → c / 2 ^ (8 + n) ≡ x → d / 2 ^ (8 + n) ≡ y → bit_xor c d / 2 ^ (8 + n) ≡ bit_xor x y
sum_top n c d x y e f = xor_shr c d (8 + n) ∙ ap₂ bit_xor e f

pub step_lt : (n c : ℕ) → c < 2 * 2 ^ (8 + n) → step n c < 2 ^ (8 + n)
step_lt n c h = elim (cases_lt c (2 ^ (8 + n))) [
  | inl l ↦ subst (λ (x : ℕ). x < 2 ^ (8 + n)) (sym (step_low n c l)) l
  | inr l ↦
      subst (λ (x : ℕ). x < 2 ^ (8 + n)) (sym (step_high n c l))
      (top_low (bit_xor c (0x11D * 2 ^ n)) (2 ^ (8 + n)) (pow_pos (8 + n))
      (sum_top n c (0x11D * 2 ^ n) 1 1 (high_top c (2 ^ (8 + n)) (pow_pos (8 + n)) l h) (divisor_top n)))
]

step_by : (n c d : ℕ) → c < 2 * 2 ^ (8 + n) → d < 2 * 2 ^ (8 + n) → (c < 2 ^ (8 + n)) ⊎ (2 ^ (8 + n) ≤ c) → (d < 2 ^ (8 + n)) ⊎ (2 ^ (8 + n) ≤ d) → step n (bit_xor c d) ≡ bit_xor (step n c) (step n d)
step_by n c d hc hd (inl p) (inl q) =
    step_low n (bit_xor c d) (xor_lt (8 + n) c d p q) ∙ sym (ap₂ bit_xor (step_low n c p) (step_low n d q))
step_by n c d hc hd (inl p) (inr q) =
    let w = 2 ^ (8 + n) in
    let m = 0x11D * 2 ^ n in
    let top = sum_top n c d 0 1 (low_top c w (pow_pos (8 + n)) p) (high_top d w (pow_pos (8 + n)) q hd) in
    step_high n (bit_xor c d) (top_high (bit_xor c d) w (pow_pos (8 + n)) top) ∙ xor_assoc c d m
    ∙ sym (ap₂ bit_xor (step_low n c p) (step_high n d q))
step_by n c d hc hd (inr p) (inl q) =
    let w = 2 ^ (8 + n) in
    let m = 0x11D * 2 ^ n in
    let top = sum_top n c d 1 0 (high_top c w (pow_pos (8 + n)) p hc) (low_top d w (pow_pos (8 + n)) q) in
    step_high n (bit_xor c d) (top_high (bit_xor c d) w (pow_pos (8 + n)) top)
    ∙ xor_assoc c d m ∙ ap (bit_xor c) (xor_comm d m) ∙ sym (xor_assoc c m d)
    ∙ sym (ap₂ bit_xor (step_high n c p) (step_low n d q))
step_by n c d hc hd (inr p) (inr q) =
    let w = 2 ^ (8 + n) in
    let m = 0x11D * 2 ^ n in
    let top = sum_top n c d 1 1 (high_top c w (pow_pos (8 + n)) p hc) (high_top d w (pow_pos (8 + n)) q hd) in
    step_low n (bit_xor c d) (top_low (bit_xor c d) w (pow_pos (8 + n)) top)
    ∙ sym (ap₂ bit_xor (step_high n c p) (step_high n d q) ∙ xor_four c m d m ∙ ap (bit_xor (bit_xor c d)) (xor_self m) ∙ xor_zero_r (bit_xor c d))

pub step_xor : (n c d : ℕ) → c < 2 * 2 ^ (8 + n) → d < 2 * 2 ^ (8 + n) → step n (bit_xor c d) ≡ bit_xor (step n c) (step n d)
step_xor n c d hc hd = step_by n c d hc hd (cases_lt c (2 ^ (8 + n))) (cases_lt d (2 ^ (8 + n)))

-- a step of the double is the double of a step
pub step_double : (n c : ℕ) → step (suc n) (c * 2) ≡ step n c * 2
step_double n c = elim (cases_lt c (2 ^ (8 + n))) [
  | inl l ↦ step_low (suc n) (c * 2) (omega (arith, wider n)) ∙ ap (λ x. x * 2) (sym (step_low n c l))
  | inr l ↦
      let twice : 0x11D * 2 ^ suc n ≡ 0x11D * 2 ^ n * 2 = omega (arith, pow-succ' 2 n) in
      step_high (suc n) (c * 2) (omega (arith, wider n)) ∙ ap (bit_xor (c * 2)) twice ∙ sym (twice_xor c (0x11D * 2 ^ n))
      ∙ ap (λ x. x * 2) (sym (step_high n c l))
]

-- ---- a shift
pub step_shifted : (c : ℕ) → step 0 (c * 2) ≡ shifted c
step_shifted c = elim (cases_lt c 128) [
  | inl l ↦ step_low 0 (c * 2) (omega arith) ∙ sym (shifted_low c l)
  | inr l ↦ step_high 0 (c * 2) (omega arith) ∙ sym (shifted_high c l)
]

pub shifted_xor : (a b : ℕ) → a < 256 → b < 256 → shifted (bit_xor a b) ≡ bit_xor (shifted a) (shifted b)
shifted_xor a b ha hb =
    sym (step_shifted (bit_xor a b)) ∙ ap (step 0) (twice_xor a b) ∙ step_xor 0 (a * 2) (b * 2) (omega arith) (omega arith)
    ∙ ap₂ bit_xor (step_shifted a) (step_shifted b)

pub shifted_lt : (a : ℕ) → a < 256 → shifted a < 256
shifted_lt a h = subst (λ (x : ℕ). x < 256) (step_shifted a) (step_lt 0 (a * 2) (omega arith))
