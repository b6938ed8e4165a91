-- A search from the back of the used places finds the newest move of a block.
use Rattle.std.proofs.Common.{◌≡◌, ℕ, zero, suc, ◌+◌, ◌-◌, ◌<◌, ◌≤◌, ◌==◌, ◌≢◌, IsTrue, IfSome, IsNone, not, List, All, Option, Some, None, length, take, drop, get_or, refl, sym, ap, ◌∙◌, ⊎_elim, arith, length-take, length-drop}
use Rattle.std.proofs.lemmas.Bool.{cond-true, cond-false, eq-eqb, ne_eqb, cases_order}
use Rattle.std.proofs.lemmas.Grind.{common_steps}
use Rattle.std.proofs.lemmas.List.Elements.{All-get_or}
use Rattle.remap.specs.Places.{newest, given}
use Rattle.remap.specs.Tables.{length_newest}

-- not block b
abbrev pub Other : ℕ → ℕ → Type 0
Other b x = IsTrue (not (x == b))

module _ (xs : List ℕ) (b : ℕ) where
  given_none : (n : ℕ) → ((k : ℕ) → k < n → get_or xs k 0 ≢ b) → given (newest xs n) b ≡ None
  given_none zero h = refl
  given_none (suc n) h = cond-false _ _ _ (ne_eqb _ _ (h n (omega arith))) ∙ given_none n (λ k l. h k (omega arith))

  given_some : (n i : ℕ) → i < n → get_or xs i 0 ≡ b → ((k : ℕ) → i < k → k < n → get_or xs k 0 ≢ b) → given (newest xs n) b ≡ Some i
  given_some zero i lt e h = absurd (omega arith)
  given_some (suc n) i lt e h =
      ⊎_elim
      (λ (last : i ≡ n). cond-true _ _ _ (eq-eqb _ _ (ap (λ k. get_or xs k 0) (sym last) ∙ e)) ∙ ap Some (length_newest xs n ∙ sym last))
      (⊎_elim (λ (more : i < n). cond-false _ _ _ (ne_eqb _ _ (h n more (omega arith))) ∙ given_some n i more e (λ k l m. h k l (omega arith))) (λ (past : n < i). absurd (omega arith)))
      (cases_order i n)

  module _ (n : ℕ) (fit : n ≤ length xs) where
    other_at : (k : ℕ) → k < n → All (Other b) (take n xs) → get_or xs k 0 ≢ b
    other_at k lt all =
        let h = All-get_or (Other b) (take n xs) k 0 (simp length-take (omega arith)) all in
        grind (arith, common_steps, h)

    other_from : (i k : ℕ) → i < k → k < n → All (Other b) (drop (i + 1) (take n xs)) → get_or xs k 0 ≢ b
    other_from i k lt ltn all =
        let h = All-get_or (Other b) (drop (i + 1) (take n xs)) (k - (i + 1)) 0 (simp (length-drop, length-take) (omega arith)) all in
        grind (arith, common_steps, h)

    pub newest_given : (o : Option ℕ) → IfSome o (λ i. get_or xs i 0 ≡ b) → IfSome o (λ i. i < n)
        → IfSome o (λ i. All (Other b) (drop (i + 1) (take n xs))) → (IsNone o → All (Other b) (take n xs)) → o ≡ given (newest xs n) b
    newest_given None found low later nothing = sym (given_none n (λ k l. other_at k l (nothing refl)))
    newest_given (Some i) found low later nothing = sym (given_some n i low found (λ k l m. other_from i k l m later))
