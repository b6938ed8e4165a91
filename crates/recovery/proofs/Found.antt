-- The way that a stripe's missing columns lead to.
use Rattle.std.proofs.Common.{◌≡◌, ℕ, ◌+◌, ◌<◌, ◌≤◌, Bool, true, false, cond, eqb, ltb, List, [], ◌∷◌, is_some, Some, None, Option, sym, refl, ap, ◌∙◌, ap₂, arith}
use Rattle.std.proofs.lemmas.Bool.{cond_both, lt-ltb, ne_eqb, and_from, not_from_false}
use Rattle.code.specs.Blocks.{zeros}
use Rattle.code.specs.Codes.{Coding}
use Rattle.parity.specs.Stripe.{gaps, plain_sum, mixed_sum}
use Rattle.parity.specs.Ways.{way, by_way, takes_plain, takes_mixed, or_else, recovered}
use Rattle.parity.specs.declared.Way.{Way}
use Rattle.parity.specs.declared.Way.TheVariants.{Plain, Mixed, Unmixed, PWithout, QWithout, Pair}
use Rattle.parity.proofs.Gaps.{gaps_first}
use Rattle.recovery.specs.declared.loss.Lost.{Lost}
use Rattle.recovery.specs.Answers.{named}
use Rattle.recovery.specs.Losses.{listed, noted}

-- only the two highest matter
pub way_noted : (k : ℕ) (l : List ℕ) (p : Bool) (t : ℕ) → way k (listed (noted l)) p t ≡ way k l p t
way_noted k [] p t = refl
way_noted k (i ∷ []) true t = refl
way_noted k (i ∷ []) false t = refl
way_noted k (i ∷ (j ∷ l)) p t = refl

-- the way of what is noted, by whether P is there
pub way_from : (k : ℕ) (cols : ℕ → Option (List ℕ)) (p : Bool) (t : ℕ) (lost : Lost) (v : Way) → lost ≡ noted (gaps cols k)
    → p ≡ is_some (cols k) → v ≡ way k (listed lost) p t → v ≡ way k (gaps cols k) (is_some (cols k)) t
way_from k cols p t lost v el ep ev = ev ∙ ap (λ x. way k (listed x) p t) el ∙ way_noted k (gaps cols k) p t ∙ ap (λ b. way k (gaps cols k) b t) ep

pair_named : (w i j : ℕ) → i < w → j < w → (i ≡ j → ⊥) → named w (Pair i j) ≡ true
pair_named w i j li lj n = and_from _ _ (lt-ltb i w li) (and_from _ _ (lt-ltb j w lj) (not_from_false _ (ne_eqb i j n)))

-- a way that missing columns lead to names columns below the limit
pub way_named : (w : ℕ) (cols : ℕ → Option (List ℕ)) (k : ℕ) → k ≤ w → (l : List ℕ) → gaps cols k ≡ l → (p : Bool) (t : ℕ) → named w (way k l p t) ≡ true
way_named w cols k h [] e p t = cond_both (eqb t k) Plain Mixed (λ v. named w v ≡ true) (λ _. refl) (λ _. refl)
way_named w cols k h (i ∷ []) e true t =
    let f = gaps_first cols k i [] e in
    cond_both (ltb t k) Plain (QWithout i) (λ v. named w v ≡ true) (λ _. refl) (λ _. lt-ltb i w (omega (arith, f.0)))
way_named w cols k h (i ∷ []) e false t =
    let f = gaps_first cols k i [] e in
    let b : ltb i w ≡ true = lt-ltb i w (omega (arith, f.0)) in
    cond_both (ltb t k) (Unmixed i) (PWithout i) (λ v. named w v ≡ true) (λ _. b) (λ _. b)
way_named w cols k h (i ∷ (j ∷ l)) e p t =
    let f = gaps_first cols k i (j ∷ l) e in
    let s = gaps_first cols i j l f.2 in
    let li : i < w = omega (arith, f.0) in
    let lj : j < w = omega (arith, f.0, s.0) in
    let n : i ≡ j → ⊥ = omega (arith, s.0) in
    cond_both (eqb t i) (Pair i j) (Pair j i) (λ v. named w v ≡ true) (λ _. pair_named w i j li lj n) (λ _. pair_named w j i lj li (λ q. n (sym q)))

-- a way reads only the sums that it needs
pub by_needed : (C : Coding) (v : Way) (a b : List ℕ) → by_way C v (cond (takes_plain v) a zeros) (cond (takes_mixed v) b zeros) ≡ by_way C v a b
by_needed C Plain a b = refl
by_needed C Mixed a b = refl
by_needed C (Unmixed i) a b = refl
by_needed C (PWithout i) a b = refl
by_needed C (QWithout i) a b = refl
by_needed C (Pair i j) a b = refl

or_missing : (o : Option (List ℕ)) (b : List ℕ) → is_some o ≡ false → or_else o b ≡ b
or_missing None b e = refl
or_missing (Some a) b e = let z : ◌≡◌ {A = ℕ} 0 1 = cc in absurd (omega arith)

-- what is found for a missing column t
pub found_is : (C : Coding) (k : ℕ) (cols : ℕ → Option (List ℕ)) (t : ℕ) (v : Way) (a b r : List ℕ) → is_some (cols t) ≡ false → v ≡ way k (gaps cols k) (is_some (cols k)) t
    → a ≡ cond (takes_plain v) (plain_sum k cols (k + 2)) zeros → b ≡ cond (takes_mixed v) (mixed_sum C k cols (k + 2)) zeros → r ≡ by_way C v a b → r ≡ recovered C k cols t
found_is C k cols t v a b r h ev ea eb er =
    er ∙ ap₂ (by_way C v) ea eb ∙ by_needed C v (plain_sum k cols (k + 2)) (mixed_sum C k cols (k + 2))
    ∙ ap (λ x. by_way C x (plain_sum k cols (k + 2)) (mixed_sum C k cols (k + 2))) ev
    ∙ sym (or_missing (cols t) (by_way C (way k (gaps cols k) (is_some (cols k)) t) (plain_sum k cols (k + 2)) (mixed_sum C k cols (k + 2))) h)
