-- The recovered column is that of every content that fits.
use Rattle.std.proofs.Common.{◌≡◌, ℕ, ◌+◌, ◌<◌, ◌≤◌, Bool, true, false, cond, ◌⊎◌, List, [], ◌∷◌, length, is_some, Some, None, Option, sym, refl, ap, ◌∙◌, subst, ap₂, inl, inr, ⊎_elim, arith}
use Rattle.std.proofs.lemmas.Bool.{both_ways, lt-ltb, le-ltb, eq-eqb, ne_eqb, false≢true}
use Rattle.code.specs.Blocks.{Block, block_size, ◌⊕◌, zeros}
use Rattle.code.specs.Codes.{Coding, Lawful}
use Rattle.code.proofs.Blocks.{xor}
use Rattle.parity.specs.Stripe.{Content, sum, column, Holds, Fits, gaps, plain_part, mixed_part, if_present, plain_sum, mixed_sum}
use Rattle.parity.specs.Ways.{way, by_way, or_else}
use Rattle.parity.specs.Theorems.{Recovers, Unique}
use Rattle.parity.specs.declared.Way.TheVariants.{Pair}
use Rattle.parity.proofs.Sums.{sum_block, sum_two_more}
use Rattle.parity.proofs.Columns.{Kind, kind, is_data, is_P, is_Q, column_data, column_P, column_Q, plain_low, plain_Q, mixed_data, mixed_P, mixed_Q, part_is, part_none}
use Rattle.parity.proofs.Gaps.{gaps_first, gaps_in, In, over, sum_present, missing_parts}

module _ (C : Coding) (L : Lawful block_size C) (k : ℕ) (kw : k ≤ C.limit) (c : ℕ → List ℕ) (hc : Content k c) where
  -- the mixings of the content
  abbrev mc : ℕ → List ℕ
  mc j = C.mix j (c j)

  hm : Content k mc
  hm i l = (L.single i (omega arith)).there (c i) (hc i l)

  -- ---- each case of loss, from what the two sums then are
  -- nothing of the data is lost
  find_parity : (p q : Bool) (a b : List ℕ) → a ≡ sum k c ⊕ zeros ⊕ cond p (sum k c) zeros ⊕ zeros → b ≡ sum k mc ⊕ zeros ⊕ zeros ⊕ cond q (sum k mc) zeros
      → (t : ℕ) → Kind k t → (t < k → ⊥) → (t ≡ k → p ≡ false) → (t ≡ k + 1 → q ≡ false) → by_way C (way k [] p t) a b ≡ column C k c t
  find_parity p q a b ea eb t (is_data l) hd hp hq = absurd (hd l)
  find_parity p q a b ea eb t (is_P e) hd hp hq =
      let bs = sum_block k c hc in
      rw (eq-eqb t k e) (ea ∙ rw (hp e, column_P C k c t e) (simp xor))
  find_parity p q a b ea eb t (is_Q e) hd hp hq =
      let bs = sum_block k mc hm in
      let n : t ≡ k → ⊥ = omega arith in
      rw (ne_eqb t k n) (eb ∙ rw (hq e, column_Q C k c t e) (simp xor))

  -- one data column is lost, and P is present
  find_with_P : (i : ℕ) → i < k → (q : Bool) (a b : List ℕ) → a ≡ sum k c ⊕ (c i ⊕ zeros) ⊕ sum k c ⊕ zeros → b ≡ sum k mc ⊕ (mc i ⊕ zeros) ⊕ zeros ⊕ cond q (sum k mc) zeros
      → (t : ℕ) → Kind k t → (t < k → t ≡ i) → (t ≡ k → ⊥) → (t ≡ k + 1 → q ≡ false) → by_way C (way k (i ∷ []) true t) a b ≡ column C k c t
  find_with_P i li q a b ea eb t kt hd hp hq =
      let bs = sum_block k c hc in
      let bm = sum_block k mc hm in
      let bi = hc i li in
      let bmi = hm i li in
      let a-is : a ≡ c i = ea ∙ simp xor in
      elim kt [
        | is_data l ↦ rw (lt-ltb t k l) (a-is ∙ ap c (sym (hd l)) ∙ sym (column_data C k c t l))
        | is_P e ↦ absurd (hp e)
        | is_Q e ↦ let m : k ≤ t = omega arith in rw (le-ltb t k m) (rw (eb, a-is, hq e, column_Q C k c t e) (simp xor))
      ]

  -- one data column and P are lost
  find_with_Q : (i : ℕ) → i < k → (a b : List ℕ) → a ≡ sum k c ⊕ (c i ⊕ zeros) ⊕ zeros ⊕ zeros → b ≡ sum k mc ⊕ (mc i ⊕ zeros) ⊕ zeros ⊕ sum k mc
      → (t : ℕ) → Kind k t → (t < k → t ≡ i) → (t ≡ k + 1 → ⊥) → by_way C (way k (i ∷ []) false t) a b ≡ column C k c t
  find_with_Q i li a b ea eb t kt hd hq =
      let bs = sum_block k c hc in
      let bm = sum_block k mc hm in
      let bi = hc i li in
      let bmi = hm i li in
      let b-is : b ≡ mc i = eb ∙ simp xor in
      let x-is : C.unmix i b ≡ c i = ap (C.unmix i) b-is ∙ (L.single i (omega arith)).undone (c i) bi in
      elim kt [
        | is_data l ↦ rw (lt-ltb t k l) (x-is ∙ ap c (sym (hd l)) ∙ sym (column_data C k c t l))
        | is_P e ↦ let m : k ≤ t = omega arith in rw (le-ltb t k m) (rw (x-is, ea, column_P C k c t e) (simp xor))
        | is_Q e ↦ absurd (hq e)
      ]

  -- the first of two lost data columns, from a = c i ⊕ c j and b = the ⊕ of their mixings
  find_pair : (i j : ℕ) → i < k → j < k → (i ≡ j → ⊥) → (a b : List ℕ) → a ≡ c i ⊕ c j → b ≡ mc i ⊕ mc j → by_way C (Pair i j) a b ≡ c i
  find_pair i j li lj n a b ea eb =
      let bi = hc i li in
      let bj = hc j lj in
      let bmi : Block (C.mix i (c i)) = hm i li in
      let bmj : Block (C.mix j (c j)) = hm j lj in
      let bmx = (L.single j (omega arith)).there (c i) bi in
      let b-is : b ≡ C.mix i (c i) ⊕ C.mix j (c j) = eb in
      let m-is : b ⊕ C.mix j a ≡ C.mix i (c i) ⊕ C.mix j (c i) = rw (ea, b-is, L.linear j (omega arith) (c i) (c j) bi bj) (simp xor) in
      ap (C.unpair i j) m-is ∙ (L.double i j (omega arith) (omega arith) n).undone (c i) bi

  find_two : (i j : ℕ) (p : Bool) → i < k → j < k → (i ≡ j → ⊥) → (a b : List ℕ) → a ≡ sum k c ⊕ (c i ⊕ (c j ⊕ zeros)) ⊕ sum k c ⊕ zeros → b ≡ sum k mc ⊕ (mc i ⊕ (mc j ⊕ zeros)) ⊕ zeros ⊕ sum k mc
      → (t : ℕ) → t < k → (t ≡ i) ⊎ (t ≡ j) → by_way C (way k (i ∷ (j ∷ [])) p t) a b ≡ column C k c t
  find_two i j p li lj n a b ea eb t lt ht =
      let bs = sum_block k c hc in
      let bm = sum_block k mc hm in
      let bi = hc i li in
      let bj = hc j lj in
      let bmi = hm i li in
      let bmj = hm j lj in
      let a-is : a ≡ c i ⊕ c j = ea ∙ simp xor in
      let b-is : b ≡ mc i ⊕ mc j = eb ∙ (let r : sum k mc ⊕ (mc i ⊕ (mc j ⊕ zeros)) ⊕ zeros ⊕ sum k mc ≡ mc i ⊕ mc j = simp xor in r) in
      let a_back : a ≡ c j ⊕ c i = a-is ∙ simp xor in
      let b-back : b ≡ mc j ⊕ mc i = b-is ∙ (let r : mc i ⊕ mc j ≡ mc j ⊕ mc i = simp xor in r) in
      let m : j ≡ i → ⊥ = λ e. n (sym e) in
      ⊎_elim
      (λ (e : t ≡ i). rw (eq-eqb t i e) (find_pair i j li lj n a b a-is b-is ∙ ap c (sym e) ∙ sym (column_data C k c t lt)))
      (λ (e : t ≡ j). let d : t ≡ i → ⊥ = λ f. n (sym f ∙ e) in rw (ne_eqb t i d) (find_pair j i lj li m a b a_back b-back ∙ ap c (sym e) ∙ sym (column_data C k c t lt)))
      ht

  -- ---- the two sums, where c fits
  module _ (cols : ℕ → Option (List ℕ)) (fit : Fits C k c cols) where
    plain_is : (g : List ℕ) → gaps cols k ≡ g → (p : Bool) → is_some (cols k) ≡ p → plain_sum k cols (k + 2) ≡ sum k c ⊕ over c g ⊕ cond p (sum k c) zeros ⊕ zeros
    plain_is g eg p ep =
        sum_two_more (λ t. if_present (plain_part k t) (cols t)) k
        ∙ ap₂ ◌⊕◌
        (ap₂ ◌⊕◌
        (sum_present cols (λ t. if_present (plain_part k t) (cols t)) c k hc
        (λ j l. part_is (plain_part k j) (cols j) (column C k c j) (c j) (fit j (omega arith)) (plain_low k j _ (omega arith) ∙ column_data C k c j l))
        ∙ ap (λ x. sum k c ⊕ over c x) eg)
        (part_is (plain_part k k) (cols k) (column C k c k) (sum k c) (fit k (omega arith)) (plain_low k k _ (omega arith) ∙ column_P C k c k refl)
        ∙ ap (λ x. cond x (sum k c) zeros) ep))
        (part_none (plain_part k (k + 1)) (cols (k + 1)) (λ b. plain_Q k (k + 1) b (omega arith)))

    mixed_is : (g : List ℕ) → gaps cols k ≡ g → (q : Bool) → is_some (cols (k + 1)) ≡ q → mixed_sum C k cols (k + 2) ≡ sum k mc ⊕ over mc g ⊕ zeros ⊕ cond q (sum k mc) zeros
    mixed_is g eg q eq =
        sum_two_more (λ t. if_present (mixed_part C k t) (cols t)) k
        ∙ ap₂ ◌⊕◌
        (ap₂ ◌⊕◌
        (sum_present cols (λ t. if_present (mixed_part C k t) (cols t)) mc k hm
        (λ j l. part_is (mixed_part C k j) (cols j) (column C k c j) (mc j) (fit j (omega arith)) (mixed_data C k j _ l ∙ ap (C.mix j) (column_data C k c j l)))
        ∙ ap (λ x. sum k mc ⊕ over mc x) eg)
        (part_none (mixed_part C k k) (cols k) (λ b. mixed_P C k k b refl)))
        (part_is (mixed_part C k (k + 1)) (cols (k + 1)) (column C k c (k + 1)) (sum k mc) (fit (k + 1) (omega arith)) (mixed_Q C k (k + 1) _ (omega arith) ∙ column_Q C k c (k + 1) refl)
        ∙ ap (λ x. cond x (sum k mc) zeros) eq)

    -- by the missing data columns, and whether P and Q are present
    found : (g : List ℕ) → gaps cols k ≡ g → (p : Bool) → is_some (cols k) ≡ p → (q : Bool) → is_some (cols (k + 1)) ≡ q
        → length g + cond p 0 1 + cond q 0 1 ≤ 2 → (t : ℕ) → t < k + 2 → is_some (cols t) ≡ false
        → by_way C (way k g p t) (plain_sum k cols (k + 2)) (mixed_sum C k cols (k + 2)) ≡ column C k c t
    found [] eg p ep q eq n t l h =
        find_parity p q _ _ (plain_is [] eg p ep) (mixed_is [] eg q eq) t (kind k t l)
        (λ m. subst (In t) eg (gaps_in cols k t m h))
        (λ e. sym ep ∙ subst (λ x. is_some (cols x) ≡ false) e h)
        (λ e. sym eq ∙ subst (λ x. is_some (cols x) ≡ false) e h)
    found (i ∷ []) eg true ep q eq n t l h =
        let first = gaps_first cols k i [] eg in
        find_with_P i first.0 q _ _ (plain_is (i ∷ []) eg true ep) (mixed_is (i ∷ []) eg q eq) t (kind k t l)
        (λ m. ⊎_elim (λ e. e) (λ z. absurd z) (subst (In t) eg (gaps_in cols k t m h)))
        (λ e. both_ways _ (subst (λ x. is_some (cols x) ≡ false) e h) ep)
        (λ e. sym eq ∙ subst (λ x. is_some (cols x) ≡ false) e h)
    found (i ∷ []) eg false ep true eq n t l h =
        let first = gaps_first cols k i [] eg in
        find_with_Q i first.0 _ _ (plain_is (i ∷ []) eg false ep) (mixed_is (i ∷ []) eg true eq) t (kind k t l)
        (λ m. ⊎_elim (λ e. e) (λ z. absurd z) (subst (In t) eg (gaps_in cols k t m h)))
        (λ e. both_ways _ (subst (λ x. is_some (cols x) ≡ false) e h) eq)
    found (i ∷ []) eg false ep false eq n t l h = absurd (omega arith)
    found (i ∷ (j ∷ [])) eg true ep true eq n t l h =
        let first = gaps_first cols k i (j ∷ []) eg in
        let second = gaps_first cols i j [] first.2 in
        let d : t < k = elim (kind k t l) [
          | is_data m ↦ m
          | is_P e ↦ absurd (both_ways _ (subst (λ x. is_some (cols x) ≡ false) e h) ep)
          | is_Q e ↦ absurd (both_ways _ (subst (λ x. is_some (cols x) ≡ false) e h) eq)
        ] in
        find_two i j true first.0 (omega (arith, first.0, second.0)) (omega (arith, second.0)) _ _
        (plain_is (i ∷ (j ∷ [])) eg true ep) (mixed_is (i ∷ (j ∷ [])) eg true eq) t d
        (⊎_elim (λ e. inl e) (⊎_elim (λ e. inr e) (λ z. absurd z)) (subst (In t) eg (gaps_in cols k t d h)))
    found (i ∷ (j ∷ [])) eg true ep false eq n t l h = absurd (omega arith)
    found (i ∷ (j ∷ [])) eg false ep true eq n t l h = absurd (omega arith)
    found (i ∷ (j ∷ [])) eg false ep false eq n t l h = absurd (omega arith)
    found (i ∷ (j ∷ (x ∷ g))) eg p ep q eq n t l h = absurd (omega arith)

pub recovers : Recovers
recovers C L k kw cols c hc fit n t l = go (cols t) refl
  where
    go : (o : Option (List ℕ)) → cols t ≡ o → or_else o (by_way C (way k (gaps cols k) (is_some (cols k)) t) (plain_sum k cols (k + 2)) (mixed_sum C k cols (k + 2))) ≡ column C k c t
    go None e = found C L k kw c hc cols fit (gaps cols k) refl (is_some (cols k)) refl (is_some (cols (k + 1))) refl (rw (missing_parts cols k) at n) t l (ap is_some e)
    go (Some b) e = subst (λ o. Holds o (column C k c t)) e (fit t l)

holds_same : (o : Option (List ℕ)) (x y : List ℕ) → is_some o ≡ true → Holds o x → Holds o y → x ≡ y
holds_same None x y p h k = absurd (false≢true p)
holds_same (Some a) x y p h k = sym h ∙ k

pub unique : Unique
unique C L k kw cols c d hc hd fc fd t l w =
    ⊎_elim
    (λ p. holds_same (cols t) _ _ p (fc t l) (fd t l))
    (λ n. sym (recovers C L k kw cols c hc fc n t l) ∙ recovers C L k kw cols d hd fd n t l)
    w
