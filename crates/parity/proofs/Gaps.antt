-- The missing columns, and what the sums over the present ones lack.
use Rattle.std.proofs.Common.{◌≡◌, ℕ, zero, suc, ◌+◌, ◌<◌, Bool, true, false, cond, ◌⊎◌, List, [], ◌∷◌, length, is_some, Option, sym, refl, ap, ◌∙◌, subst, ap₂, inl, inr, ⊎_elim, add-one, arith}
use Rattle.std.proofs.lemmas.Bool.{cond-true, cond-false, cases_Bool, cases_eq, both_ways}
use Rattle.code.specs.Blocks.{Block, ◌⊕◌, zeros}
use Rattle.code.proofs.Blocks.{xor, block_add, block_zeros}
use Rattle.parity.specs.Stripe.{Content, sum, gaps, missing}
use Rattle.parity.proofs.Sums.{sum_block}

pub gaps_none : (cols : ℕ → Option (List ℕ)) → gaps cols 0 ≡ []
unfolding gaps
gaps_none cols = refl

pub gaps_more : (cols : ℕ → Option (List ℕ)) (k : ℕ) → gaps cols (k + 1) ≡ cond (is_some (cols k)) (gaps cols k) (k ∷ gaps cols k)
unfolding gaps
gaps_more cols k = rw add-one

-- the highest missing column, and those below it
pub gaps_first : (cols : ℕ → Option (List ℕ)) (k i : ℕ) (l : List ℕ) → gaps cols k ≡ i ∷ l → (i < k) × (is_some (cols i) ≡ false) × (gaps cols i ≡ l)
unfolding gaps
gaps_first cols zero i l e = absurd cc
gaps_first cols (suc k) i l e =
    ⊎_elim
    (λ p. let r = gaps_first cols k i l (sym (cond-true _ _ _ p) ∙ e) in (omega (arith, r.0), r.1, r.2))
    (λ p.
    let f : k ∷ gaps cols k ≡ i ∷ l = sym (cond-false _ _ _ p) ∙ e in
    let q : k ≡ i = cc in
    let r : gaps cols k ≡ l = cc in
    (omega arith, subst (λ n. is_some (cols n) ≡ false) q p, subst (λ n. gaps cols n ≡ l) q r))
    (cases_Bool (is_some (cols k)))

-- t is one of a list
abbrev pub In : ℕ → List ℕ → Type 0
In t [] = ⊥
In t (x ∷ l) = (t ≡ x) ⊎ In t l

pub gaps_in : (cols : ℕ → Option (List ℕ)) (k t : ℕ) → t < k → is_some (cols t) ≡ false → In t (gaps cols k)
unfolding gaps
gaps_in cols zero t l h = absurd (omega arith)
gaps_in cols (suc k) t l h =
    ⊎_elim
    (λ (p : is_some (cols k) ≡ true).
    rw p (gaps_in cols k t
    (⊎_elim (λ (e : t ≡ k). absurd (both_ways _ (subst (λ n. is_some (cols n) ≡ false) e h) p)) (λ (n : t ≡ k → ⊥). omega arith) (cases_eq t k)) h))
    (λ (p : is_some (cols k) ≡ false).
    rw p (⊎_elim (λ (e : t ≡ k). inl e) (λ (n : t ≡ k → ⊥). inr (gaps_in cols k t (omega arith) h)) (cases_eq t k)))
    (cases_Bool (is_some (cols k)))

-- ---- the number of missing columns
pub length_cond : (b : Bool) (x : ℕ) (g : List ℕ) → length (cond b g (x ∷ g)) ≡ length g + cond b 0 1
length_cond true x g = omega arith
length_cond false x g = omega arith

pub missing_none : (cols : ℕ → Option (List ℕ)) → missing cols 0 ≡ 0
missing_none cols = ap length (gaps_none cols)

pub missing_more : (cols : ℕ → Option (List ℕ)) (k : ℕ) → missing cols (k + 1) ≡ missing cols k + cond (is_some (cols k)) 0 1
missing_more cols k = ap length (gaps_more cols k) ∙ length_cond (is_some (cols k)) k (gaps cols k)

-- data columns, P and Q counted apart
pub missing_parts : (cols : ℕ → Option (List ℕ)) (k : ℕ) → missing cols (k + 2) ≡ missing cols k + cond (is_some (cols k)) 0 1 + cond (is_some (cols (k + 1))) 0 1
missing_parts cols k =
    ap (missing cols) (omega arith) ∙ missing_more cols (k + 1) ∙ ap (λ n. n + cond (is_some (cols (k + 1))) 0 1) (missing_more cols k)

-- ---- sums over the missing
abbrev pub over : (ℕ → List ℕ) → List ℕ → List ℕ
over f [] = zeros
over f (i ∷ l) = f i ⊕ over f l

pub over_block : (cols : ℕ → Option (List ℕ)) (f : ℕ → List ℕ) (k : ℕ) → Content k f → Block (over f (gaps cols k))
unfolding gaps
over_block cols f zero h = block_zeros
over_block cols f (suc k) h =
    let r = over_block cols f k (λ i l. h i (omega arith)) in
    ⊎_elim
    (λ (p : is_some (cols k) ≡ true). rw p r)
    (λ (p : is_some (cols k) ≡ false). rw p (block_add _ _ (h k (omega arith)) r))
    (cases_Bool (is_some (cols k)))

-- the sum over the present columns is the whole sum, with the missing ones added once more
pub sum_present : (cols : ℕ → Option (List ℕ)) (h f : ℕ → List ℕ) (k : ℕ) → Content k f
    → ((j : ℕ) → j < k → h j ≡ cond (is_some (cols j)) (f j) zeros) → sum k h ≡ sum k f ⊕ over f (gaps cols k)
unfolding gaps sum
sum_present cols h f zero hf e = simp xor
sum_present cols h f (suc k) hf e =
    let hk : Content k f = λ i l. hf i (omega arith) in
    let b = hf k (omega arith) in
    let bs = sum_block k f hk in
    let bo = over_block cols f k hk in
    let r = sum_present cols h f k hk (λ j l. e j (omega arith)) in
    let s = e k (omega arith) in
    ⊎_elim
    (λ (p : is_some (cols k) ≡ true).
    let here : sum k f ⊕ over f (gaps cols k) ⊕ f k ≡ sum k f ⊕ f k ⊕ over f (gaps cols k) = simp xor in
    ap₂ ◌⊕◌ r (s ∙ cond-true _ _ _ p) ∙ here ∙ ap (λ g. sum k f ⊕ f k ⊕ over f g) (sym (cond-true _ _ _ p)))
    (λ (p : is_some (cols k) ≡ false).
    let here : sum k f ⊕ over f (gaps cols k) ⊕ zeros ≡ sum k f ⊕ f k ⊕ (f k ⊕ over f (gaps cols k)) = simp xor in
    ap₂ ◌⊕◌ r (s ∙ cond-false _ _ _ p) ∙ here ∙ ap (λ g. sum k f ⊕ f k ⊕ over f g) (sym (cond-false _ _ _ p)))
    (cases_Bool (is_some (cols k)))
