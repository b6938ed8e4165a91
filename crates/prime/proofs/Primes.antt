-- Primes by trial division.
use Rattle.std.proofs.Common.{◌≡◌, ℕ, zero, suc, ◌%◌, ◌<◌, Bool, true, not, ◌&&◌, ◌||◌, eqb, leb, sym, refl, ap, ◌∙◌, inl, inr, arith, lit<}
use Rattle.std.proofs.lemmas.Bool.{and_parts, or_cases, leb-true, not-true, eq-eqb, both_ways, cases_eq}
use Rattle.prime.specs.Primes.{Prime}

-- no d from 2 to n − 1 divides p
abbrev trial : ℕ → ℕ → Bool
trial p zero = true
trial p (suc n) = (leb n 1 || not (eqb (p % n) 0)) && trial p n

trial_holds : (p n : ℕ) → trial p n ≡ true → (d : ℕ) → 1 < d → d < n → p % d ≡ 0 → ⊥
trial_holds p zero t d l h e = omega arith
trial_holds p (suc n) t d l h e =
    let (here, rest) = and_parts (leb n 1 || not (eqb (p % n) 0)) (trial p n) t in
    elim (cases_eq d n) [
      | inl q ↦ elim (or_cases (leb n 1) (not (eqb (p % n) 0)) here) [
        | inl s ↦ omega (arith, leb-true n 1 s)
        | inr s ↦ both_ways (eqb (p % n) 0) (not-true (eqb (p % n) 0) s) (eq-eqb (p % n) 0 (ap (λ x. p % x) (sym q) ∙ e))
      ]
      | inr q ↦ trial_holds p n rest d l (omega arith) e
    ]

-- a number that passes the trial is prime
pub prime_by : (p : ℕ) → 1 < p → trial p p ≡ true → Prime p
prime_by p l t = (l, trial_holds p p t)

pub prime_17 : Prime 17
prime_17 = prime_by 17 (lit< tt) refl
