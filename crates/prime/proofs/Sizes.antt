-- The sizes of a block of p − 1 rows of w bytes, n bytes in all, as linear facts.
use Rattle.std.proofs.Common.{◌≡◌, ℕ, ◌+◌, ◌-◌, ◌*◌, ◌%◌, ◌<◌, ◌≤◌, sym, ap, ◌∙◌, inl, inr, mod-eq_of_lt, mul_comm, mul-zero, arith}
use native.Mathlib.Nat.{mod-eq-sub-mod}
use Rattle.std.proofs.lemmas.Nat.{mul-le, mul-add-lt}
use Rattle.std.proofs.lemmas.Bool.{cases_eq}
use Rattle.prime.specs.Primes.{Prime}

pub record Sizes (p w n : ℕ) : Type 0 where
  pub big : 1 < p
  pub wide : 0 < w
  -- a row is no longer than the block
  pub short : w ≤ n
  -- the prime is at most one above the number of bytes
  pub low : p ≤ n + 1
  -- each row lies in the block
  pub within : (r : ℕ) → r < p - 1 → r * w + w ≤ n
  -- and so does a run of rows
  pub run : (s : ℕ) → s < p → s * w ≤ n
  -- row p − 1 lies past the end
  pub top : (r : ℕ) → p - 1 ≤ r → n ≤ r * w
  pub whole : (p - 1) * w ≡ n

pub sizes : (p w n : ℕ) → Prime p → 0 < n → (p - 1) * w ≡ n → Sizes p w n
sizes p w n pr some whole = record {
  big = pr.0;
  wide = wide;
  short = omega (arith, mul-le 1 w (p - 1) w (omega (arith, pr.0)) (omega arith));
  low = omega (arith, mul-le (p - 1) 1 (p - 1) w (omega arith) (omega (arith, wide)));
  within = λ r h. omega (arith, mul-add-lt r w (w - 1) (p - 1) h (omega (arith, wide)), mul_comm w (p - 1));
  run = λ s h. omega (arith, mul-le s w (p - 1) w (omega arith) (omega arith));
  top = λ r h. omega (arith, mul-le (p - 1) w r w h (omega arith));
  whole = whole;
}
  where
    wide : 0 < w
    wide = elim (cases_eq w 0) [
      | inl z ↦ let e : 0 ≡ n = sym (mul-zero (p - 1)) ∙ ap (λ x. (p - 1) * x) (sym z) ∙ whole in absurd (omega arith)
      | inr z ↦ omega arith
    ]

-- ---- a number brought back below p
pub fold_below : (x p : ℕ) → x < p → x ≡ x % p
fold_below x p h = sym (mod-eq_of_lt h)

pub fold_above : (x p : ℕ) → p ≤ x → x < 2 * p → x - p ≡ x % p
fold_above x p h l = sym (mod-eq-sub-mod h ∙ mod-eq_of_lt (omega arith))
