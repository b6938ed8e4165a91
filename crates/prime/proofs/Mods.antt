-- Remainders by p.
use Rattle.std.proofs.Common.{◌≡◌, ℕ, zero, suc, ◌+◌, ◌-◌, ◌*◌, ◌/◌, ◌%◌, ◌<◌, ◌≤◌, sym, ap, ◌∙◌, inl, inr, add_assoc, mod-lt, mod-eq_of_lt, mul_assoc, add-mul, add_comm, mul-zero, mul-one, mul-suc, arith}
use native.Mathlib.Nat.{mod-add-mod, add-mod-mod, add-mul-mod_self_right, mul-mod_left, mul-mod_right, mod-add-div}
use Rattle.std.proofs.lemmas.Bool.{cases_eq}
use Rattle.prime.specs.Primes.{Prime}

module _ (p : ℕ) where
  pub add_cong : (x y z : ℕ) → x % p ≡ y % p → (x + z) % p ≡ (y + z) % p
  add_cong x y z h = sym (mod-add-mod x p z) ∙ ap (λ n. (n + z) % p) h ∙ mod-add-mod y p z

  pub add_cong_r : (z x y : ℕ) → x % p ≡ y % p → (z + x) % p ≡ (z + y) % p
  add_cong_r z x y h = sym (add-mod-mod z x p) ∙ ap (λ n. (z + n) % p) h ∙ add-mod-mod z y p

  pub mul_cong : (x y z : ℕ) → x % p ≡ y % p → (x * z) % p ≡ (y * z) % p
  mul_cong x y zero h = rw (mul-zero x, mul-zero y)
  mul_cong x y (suc z) h = rw (mul-suc x z, mul-suc y z) (add_cong (x * z) (y * z) x (mul_cong x y z h) ∙ add_cong_r (y * z) x y h)

  pub cancel : 0 < p → (x y z : ℕ) → (x + z) % p ≡ (y + z) % p → x % p ≡ y % p
  cancel pos x y z h = back x ∙ add_cong (x + z) (y + z) (z * (p - 1)) h ∙ sym (back y)
    where
      whole : z + z * (p - 1) ≡ z * p
      whole = add_comm z (z * (p - 1)) ∙ sym (mul-suc z (p - 1)) ∙ ap (λ n. z * n) (omega arith)

      back : (x : ℕ) → x % p ≡ (x + z + z * (p - 1)) % p
      back x = sym (add-mul-mod_self_right x z p) ∙ ap (λ n. n % p) (ap (λ n. x + n) (sym whole) ∙ sym (add_assoc x z (z * (p - 1))))

-- from an inverse of p % d to one of d
pub inverse_more : (p d e : ℕ) → 0 < d → d < p → (p % d * e) % p ≡ 1 → (d * (p / d * e * (p - 1))) % p ≡ 1
inverse_more p d e pos h known = ap (λ n. n % p) (sym (mul_assoc d (p / d * e) (p - 1))) ∙ cancel p (omega arith) (y * (p - 1)) (p % d * e) y (left ∙ sym right) ∙ known
  where
    y : ℕ
    y = d * (p / d * e)

    left : (y * (p - 1) + y) % p ≡ 0
    left = ap (λ n. n % p) (sym (mul-suc y (p - 1)) ∙ ap (λ n. y * n) (omega arith)) ∙ mul-mod_left y p

    sum : p % d * e + d * (p / d * e) ≡ p * e
    sum = ap (λ n. p % d * e + n) (sym (mul_assoc d (p / d) e)) ∙ sym (add-mul (p % d) (d * (p / d)) e) ∙ ap (λ n. n * e) (mod-add-div p d)

    right : (p % d * e + y) % p ≡ 0
    right = ap (λ n. n % p) sum ∙ mul-mod_right p e

-- every step below a prime has an inverse
pub inverse : (p : ℕ) → Prime p → (n d : ℕ) → d ≤ n → 0 < d → d < p → (e : ℕ) × ((d * e) % p ≡ 1)
inverse p pr zero d l pos h = absurd (omega arith)
inverse p pr (suc n) d l pos h =
    elim (cases_eq d 1) [
      | inl e ↦ (1, rw (mul-one d) (mod-eq_of_lt h ∙ e))
      | inr ne ↦
          let small : p % d < d = mod-lt p pos in
          let some : 0 < p % d = elim (cases_eq (p % d) 0) [ inl z ↦ absurd (pr.1 d (omega arith) h z) | inr z ↦ omega arith ] in
          let (e, k) = inverse p pr n (p % d) (omega arith) some (omega arith) in
          (p / d * e * (p - 1), inverse_more p d e pos h k)
    ]
