-- Moves one after the other.
use Rattle.std.proofs.Common.{◌≡◌, ℕ, zero, suc, ◌+◌, ◌<◌, ◌≤◌, cond, leb, sym, refl, ap, ◌∙◌, subst, ⊎_elim, add-one, arith}
use Rattle.std.proofs.lemmas.Bool.{cond-true, cond-false, le-leb, lt-leb, cases_eq}
use Rattle.member.specs.Meaning.{Meaning}
use Rattle.contents.specs.Columns.{Members}
use Rattle.contents.specs.Changes.{Moved, Steps}

-- ---- a loop's start and step
pub steps_none : (R : ℕ → Members → Members → Type 0) (M : Members) → Steps 0 R M M
steps_none R M = record { at = λ _. M; begins = refl; ends = refl; each = λ i l. absurd (omega arith) }

abbrev longer : ℕ → (ℕ → Members) → Members → ℕ → Members
longer i at O j = cond (leb j i) (at j) O

longer_was : (i : ℕ) (at : ℕ → Members) (O : Members) (j : ℕ) → j ≤ i → longer i at O j ≡ at j
longer_was i at O j l = cond-true _ _ _ (le-leb j i l)

longer_last : (i : ℕ) (at : ℕ → Members) (O : Members) → longer i at O (i + 1) ≡ O
longer_last i at O = cond-false _ _ _ (lt-leb (i + 1) i (omega arith))

pub steps_more : (R : ℕ → Members → Members → Type 0) (i : ℕ) (M N O : Members) → Steps i R M N → R i N O → Steps (i + 1) R M O
steps_more R i M N O w r =
    let at = longer i w.at O in
    let was = longer_was i w.at O in
    let last = longer_last i w.at O in
    record {
      at = at;
      begins = was 0 (omega arith) ∙ w.begins;
      ends = last;
      each = λ j l.
          ⊎_elim
          (λ (e : j ≡ i).
          subst (λ (x : ℕ). R x (at x) (at (x + 1))) (sym e)
          (subst (λ (A : Members). R i A (at (i + 1))) (sym (was i (omega arith) ∙ w.ends)) (subst (λ (A : Members). R i N A) (sym last) r)))
          (λ (ne : j ≡ i → ⊥).
          subst (λ (A : Members). R j A (at (j + 1))) (sym (was j (omega arith)))
          (subst (λ (A : Members). R j (w.at j) A) (sym (was (j + 1) (omega arith))) (w.each j (omega arith))))
          (cases_eq j i);
    }

-- ---- a walk over the slots moves each slot once
module _ (n : ℕ) (R : ℕ → Meaning → Meaning → Type 0) (M N : Members) (w : Steps n (λ i. Moved (R i) i) M N) where
  before : (i j : ℕ) → i ≤ j → i ≤ n → w.at i j ≡ M j
  before zero j l m = ap (λ (A : Members). A j) w.begins
  before (suc i) j l m =
      subst (λ (x : ℕ). w.at x j ≡ M j) (add-one i)
      ((w.each i (omega arith)).others j (λ e. omega arith) ∙ before i j (omega arith) (omega arith))

  after : (i j : ℕ) → j < i → i ≤ n → w.at i j ≡ w.at (j + 1) j
  after zero j l m = absurd (omega arith)
  after (suc i) j l m =
      ⊎_elim
      (λ (e : j ≡ i). ap (λ (x : ℕ). w.at x j) (sym (add-one i) ∙ ap (λ (x : ℕ). x + 1) (sym e)))
      (λ (ne : j ≡ i → ⊥).
      subst (λ (x : ℕ). w.at x j ≡ w.at (j + 1) j) (add-one i)
      ((w.each i (omega arith)).others j ne ∙ after i j (omega arith) (omega arith)))
      (cases_eq j i)

  pub walk_each : (j : ℕ) → j < n → R j (M j) (N j)
  walk_each j l =
      subst (λ (m : Meaning). R j m (N j)) (before j j (omega arith) (omega arith))
      (subst (λ (m : Meaning). R j (w.at j j) m) (sym (after n j l (omega arith)) ∙ ap (λ (A : Members). A j) w.ends) (w.each j l).here)

  pub walk_rest : (j : ℕ) → n ≤ j → N j ≡ M j
  walk_rest j l = sym (ap (λ (A : Members). A j) w.ends) ∙ before n j l (omega arith)
