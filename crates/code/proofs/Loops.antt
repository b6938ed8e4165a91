-- Loops that go over a buffer byte by byte and write each byte once.
use Rattle.std.proofs.Common.{◌≡◌, ℕ, ◌+◌, ◌<◌, ◌≤◌, min, List, length, get_or, set, sym, ap, ◌∙◌, inl, inr, arith}
use lib.Bits.{bit_xor, xor_zero_r}
use Rattle.std.proofs.lemmas.List.{get_or-set_same, get_or-set_other, length-set, get_or_past}
use Rattle.std.proofs.lemmas.Bool.{cases_eq, cases_lt}
use Rattle.code.specs.Blocks.{onto}
use Rattle.code.proofs.Blocks.{is_onto}

-- after i turns: the new byte h k stands at each place k below i, and the old list's byte from there on
pub record Half (h : ℕ → ℕ) (old s : List ℕ) (i : ℕ) : Type 0 where
  pub len : length s ≡ length old
  pub done : (k : ℕ) → k < i → get_or s k 0 ≡ h k
  pub rest : (k : ℕ) → i ≤ k → get_or s k 0 ≡ get_or old k 0

pub half_more : (h : ℕ → ℕ) (old s : List ℕ) (i v : ℕ) → i < length old → v ≡ h i → Half h old s i → Half h old (set s i v) (i + 1)
half_more h old s i v l e p = record {
  len = length-set s i v ∙ p.len;
  done = λ k m. elim (cases_eq k i) [
    | inl q ↦ rw q (get_or-set_same s i v 0 (omega (arith, p.len)) ∙ e)
    | inr q ↦ get_or-set_other s i k v 0 q ∙ p.done k (omega arith)
  ];
  rest = λ k m. get_or-set_other s i k v 0 (λ q. omega arith) ∙ p.rest k (omega arith);
}

-- a run added as far as both lists go is added onto the first
pub half_onto : (a b s : List ℕ) (i : ℕ) → i ≡ min (length a) (length b) → Half (λ k. bit_xor (get_or a k 0) (get_or b k 0)) a s i → s ≡ onto a b
half_onto a b s i e p = is_onto s a b p.len (λ k l. elim (cases_lt k i) [
  | inl m ↦ p.done k m
  | inr m ↦
      let past : get_or b k 0 ≡ 0 = get_or_past b k 0 (omega arith) in
      p.rest k m ∙ sym (ap (bit_xor (get_or a k 0)) past ∙ xor_zero_r (get_or a k 0))
])
