-- Masks and counts over the slots: a loop's start and step, and the bits of a mask.
use Rattle.std.proofs.Common.{◌≡◌, ℕ, zero, suc, ◌+◌, ◌-◌, ◌*◌, ◌/◌, ◌%◌, ◌^◌, ◌<◌, ◌≤◌, Bool, true, false, cond, ◌⊎◌, sym, refl, ap, ◌∙◌, subst, inl, inr, ⊎_elim, add-zero, add-one, arith, pow-add}
use native.Mathlib.Nat.{add-mul-div_right, add-mul-mod_self_right}
use Rattle.std.proofs.lemmas.Nat.{shr_high, pow_pos, pow_below}
use Rattle.std.proofs.lemmas.Bool.{cases_Bool, cases_eq, cases_lt, cond-true}
use Rattle.contents.specs.Columns.{Members, Frontiers, status, is_gone, is_behind, is_unreadable, count, mask, loss_of}
use Rattle.contents.specs.Theorems.{bit, Set}

-- ---- a loop's start and step
pub count_none : (p : ℕ → Bool) → count p 0 ≡ 0
unfolding count
count_none p = refl

pub count_more : (p : ℕ → Bool) (n : ℕ) → count p (n + 1) ≡ count p n + cond (p n) 1 0
unfolding count
count_more p n = rw add-one

pub count_le : (p : ℕ → Bool) (n : ℕ) → count p n ≤ n
unfolding count
count_le p zero = omega arith
count_le p (suc n) =
    let h = count_le p n in
    ⊎_elim (λ (q : p n ≡ true). rw q (omega arith)) (λ (q : p n ≡ false). rw q (omega arith)) (cases_Bool (p n))

-- four tests of which each number below n has exactly one
pub count_four : (p q r t : ℕ → Bool) → ((i : ℕ) → cond (p i) 1 0 + cond (q i) 1 0 + cond (r i) 1 0 + cond (t i) 1 0 ≡ 1) → (n : ℕ)
    → count p n + count q n + count r n + count t n ≡ n
unfolding count
count_four p q r t h zero = omega arith
count_four p q r t h (suc n) =
    let a = count_four p q r t h n in
    let b = h n in
    omega arith

pub mask_more : (p : ℕ → Bool) (n : ℕ) → mask p (n + 1) ≡ mask p n + cond (p n) (2 ^ n) 0
unfolding mask
mask_more p n = rw add-one

pub loss_none : (M : Members) (F : Frontiers) (s : ℕ) → record { stripe = s; gone = 0; behind = 0; unreadable = 0 } ≡ loss_of M F 0 s
unfolding loss_of mask
loss_none M F s = refl

-- the loss on one slot more
pub loss_more : (M : Members) (F : Frontiers) (n s : ℕ) → loss_of M F (n + 1) s ≡ record {
  stripe = s;
  gone = (loss_of M F n s).gone + cond (is_gone (status M F s n)) (2 ^ n) 0;
  behind = (loss_of M F n s).behind + cond (is_behind (status M F s n)) (2 ^ n) 0;
  unreadable = (loss_of M F n s).unreadable + cond (is_unreadable (status M F s n)) (2 ^ n) 0;
}
unfolding loss_of
loss_more M F n s = cc (mask_more (λ i. is_gone (status M F s i)) n, mask_more (λ i. is_behind (status M F s i)) n, mask_more (λ i. is_unreadable (status M F s i)) n)

-- ---- the bits of a mask
power_next : (n : ℕ) → 2 ^ (n + 1) ≡ 2 ^ n * 2
power_next n = pow-add 2 n 1

power_suc : (n : ℕ) → 2 ^ suc n ≡ 2 ^ n * 2
power_suc n = ap (λ (x : ℕ). 2 ^ x) (sym (add-one n)) ∙ power_next n

bit_low : (m i d : ℕ) → bit (m + 2 ^ (d + 1 + i)) i ≡ bit m i
bit_low m i d =
    ap (λ (x : ℕ). (m + x) / 2 ^ i % 2) (pow-add 2 (d + 1) i)
    ∙ ap (λ (x : ℕ). x % 2) (add-mul-div_right m (2 ^ (d + 1)) (pow_pos i))
    ∙ ap (λ (x : ℕ). (m / 2 ^ i + x) % 2) (power_next d)
    ∙ add-mul-mod_self_right (m / 2 ^ i) (2 ^ d) 2

bit_none : (m i : ℕ) → m < 2 ^ i → ◌≡◌ {A = ℕ} (bit m i) 0
bit_none m i l =
    let z : m ≡ 0 * 2 ^ i + m = omega arith in
    ap (λ (x : ℕ). x / 2 ^ i % 2) z ∙ ap (λ (x : ℕ). x % 2) (shr_high 0 i m l)

bit_top : (m i : ℕ) → m < 2 ^ i → Set (m + 2 ^ i) i
bit_top m i l =
    let z : m + 2 ^ i ≡ 1 * 2 ^ i + m = omega arith in
    ap (λ (x : ℕ). x / 2 ^ i % 2) z ∙ ap (λ (x : ℕ). x % 2) (shr_high 1 i m l)

pub mask_lt : (p : ℕ → Bool) (n : ℕ) → mask p n < 2 ^ n
unfolding mask
mask_lt p zero = omega (arith, pow_pos 0)
mask_lt p (suc n) =
    let h = mask_lt p n in
    let e = power_suc n in
    ⊎_elim
    (λ (q : p n ≡ true). rw q (omega (arith, h, e)))
    (λ (q : p n ≡ false). rw q (omega (arith, h, e)))
    (cases_Bool (p n))

lower : (m i n : ℕ) → i < n → bit (m + 2 ^ n) i ≡ bit m i
lower m i n l = let e : n - 1 - i + 1 + i ≡ n = omega arith in subst (λ (x : ℕ). bit (m + 2 ^ x) i ≡ bit m i) e (bit_low m i (n - 1 - i))

mask_in : (p : ℕ → Bool) (n i : ℕ) → i < n → ◌≡◌ {A = ℕ} (bit (mask p n) i) (cond (p i) 1 0)
unfolding mask
mask_in p zero i l = absurd (omega arith)
mask_in p (suc n) i l =
    let h = mask_lt p n in
    ⊎_elim
    (λ (e : i ≡ n).
    subst (λ (x : ℕ). ◌≡◌ {A = ℕ} (bit (mask p n + cond (p n) (2 ^ n) 0) x) (cond (p x) 1 0)) (sym e)
    (⊎_elim
    (λ (q : p n ≡ true). rw q (bit_top (mask p n) n h))
    (λ (q : p n ≡ false). rw (q, add-zero) (bit_none (mask p n) n h))
    (cases_Bool (p n))))
    (λ (ne : i ≡ n → ⊥).
    let r = mask_in p n i (omega arith) in
    ⊎_elim
    (λ (q : p n ≡ true). rw q (lower (mask p n) i n (omega arith) ∙ r))
    (λ (q : p n ≡ false). rw (q, add-zero) r)
    (cases_Bool (p n)))
    (cases_eq i n)

mask_out : (p : ℕ → Bool) (n i : ℕ) → n ≤ i → ◌≡◌ {A = ℕ} (bit (mask p n) i) 0
mask_out p n i l =
    let h = mask_lt p n in
    ⊎_elim
    (λ (e : n ≡ i). bit_none (mask p n) i (subst (λ (x : ℕ). mask p n < 2 ^ x) e h))
    (λ (ne : n ≡ i → ⊥). let k = pow_below n i (omega arith) in bit_none (mask p n) i (omega (arith, h, k)))
    (cases_eq n i)

-- every bit of a mask: set below n where p says so, and never beyond
pub mask_bit : (p : ℕ → Bool) (n i : ℕ) → ((i < n) × ◌≡◌ {A = ℕ} (bit (mask p n) i) (cond (p i) 1 0)) ⊎ ((n ≤ i) × ◌≡◌ {A = ℕ} (bit (mask p n) i) 0)
mask_bit p n i = ⊎_elim (λ (l : i < n). inl (l, mask_in p n i l)) (λ (l : n ≤ i). inr (l, mask_out p n i l)) (cases_lt i n)

pub set_only : (p : ℕ → Bool) (n i : ℕ) → Set (mask p n) i → (i < n) × (p i ≡ true)
set_only p n i e =
    ⊎_elim
    (λ (l : i < n). ⊎_elim
    (λ (q : p i ≡ true). (l, q))
    (λ (q : p i ≡ false). absurd (cc (mask_in p n i l)))
    (cases_Bool (p i)))
    (λ (l : n ≤ i). absurd (cc (mask_out p n i l)))
    (cases_lt i n)

pub set_if : (p : ℕ → Bool) (n i : ℕ) → i < n → p i ≡ true → Set (mask p n) i
set_if p n i l q = mask_in p n i l ∙ cond-true _ _ _ q
