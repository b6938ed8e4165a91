-- A product is the sum of its terms.
use Rattle.std.proofs.Common.{◌≡◌, ℕ, zero, suc, ◌+◌, ◌*◌, ◌/◌, ◌%◌, ◌<◌, ◌≤◌, List, ◌∷◌, length, get_or, set, drop, sym, refl, ap, ◌∙◌, inl, inr, add-one, one-mul, zero-mul, drop-cons, arith}
use lib.Bits.{bit_and, bit_xor, and_mask, xor_assoc, xor_zero_r}
use Rattle.std.proofs.lemmas.List.{ext_get_or, get_or-set_same, get_or-set_other, length-set, drop_all}
use Rattle.std.proofs.lemmas.Bool.{cases_eq}
use Rattle.field.specs.Field.{shifted, chosen, product, times}
use Rattle.field.specs.Terms.{shifts, summed}
use Rattle.field.proofs.Powers.{shift_by, length_shifts, get_or_shifts}

product_summed : (n a b : ℕ) → summed (shifts n a) b ≡ product n a b
unfolding shifts summed product
product_summed zero a b = refl
product_summed (suc n) a b = ap (bit_xor (chosen (b % 2) a)) (product_summed n (shifted a) (b / 2))

pub times_summed : (a b : ℕ) → summed (shifts 8 a) b ≡ times a b
unfolding times
times_summed a b = product_summed 8 a b

-- a digit times a term
digit_times : (d t : ℕ) → d < 2 → d * t ≡ chosen d t
digit_times zero t h = zero-mul t
digit_times (suc zero) t h = one-mul t
digit_times (suc (suc d)) t h = absurd (omega arith)

-- a digit, cut out by a mask, times a term
digit_product : (q t : ℕ) → bit_and q 1 * t ≡ chosen (q % 2) t
digit_product q t = ap (λ d. d * t) (and_mask q 1) ∙ digit_times (q % 2) t (omega arith)

-- ---- the sum, term after term: what is added up so far, and what the terms from place i on give
pub summed_more : (ts : List ℕ) (i sum b : ℕ) → i < length ts → bit_xor (bit_xor sum (bit_and b 1 * get_or ts i 0)) (summed (drop (i + 1) ts) (b / 2)) ≡ bit_xor sum (summed (drop i ts) b)
unfolding summed
summed_more ts i sum b h =
    let next : get_or ts i 0 ∷ drop (i + 1) ts ≡ drop i ts = rw add-one (sym (drop-cons ts i 0 h)) in
    ap (λ x. bit_xor (bit_xor sum x) (summed (drop (i + 1) ts) (b / 2))) (digit_product b (get_or ts i 0))
    ∙ xor_assoc sum (chosen (b % 2) (get_or ts i 0)) (summed (drop (i + 1) ts) (b / 2)) ∙ ap (λ r. bit_xor sum (summed r b)) next

pub summed_all : (ts : List ℕ) (i sum b : ℕ) → length ts ≤ i → bit_xor sum (summed (drop i ts) b) ≡ sum
unfolding summed
summed_all ts i sum b h = ap (λ r. bit_xor sum (summed r b)) (drop_all i ts h) ∙ xor_zero_r sum

-- ---- the terms, each from the one before
pub record Doubled (a : ℕ) (ts : List ℕ) (i : ℕ) : Type 0 where
  pub len : length ts ≡ 8
  pub done : (k : ℕ) → k < i → get_or ts k 0 ≡ shift_by k a

pub doubled_none : (a : ℕ) (ts : List ℕ) → length ts ≡ 8 → Doubled a ts 0
doubled_none a ts h = record { len = h; done = λ k l. absurd (omega arith) }

pub doubled_more : (a : ℕ) (ts : List ℕ) (i v : ℕ) → i < length ts → v ≡ shift_by i a → Doubled a ts i → Doubled a (set ts i v) (i + 1)
doubled_more a ts i v l e d = record {
  len = length-set ts i v ∙ d.len;
  done = λ k m. elim (cases_eq k i) [
    | inl q ↦ ap (λ j. get_or (set ts i v) j 0) q ∙ get_or-set_same ts i v 0 l ∙ e ∙ ap (λ j. shift_by j a) (sym q)
    | inr q ↦ get_or-set_other ts i k v 0 q ∙ d.done k (omega arith)
  ];
}

pub doubled_all : (a : ℕ) (ts : List ℕ) (i : ℕ) → i ≡ 8 → Doubled a ts i → ts ≡ shifts 8 a
doubled_all a ts i e d =
    ext_get_or 0 ts (shifts 8 a) (d.len ∙ sym (length_shifts 8 a))
    (λ k l. d.done k (omega (arith, d.len)) ∙ sym (get_or_shifts 8 a k (omega (arith, d.len))))
