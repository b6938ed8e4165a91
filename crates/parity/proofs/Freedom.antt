-- With a data column and at least two other columns missing, that data column is free.
use Rattle.std.proofs.Common.{◌≡◌, ℕ, zero, suc, ◌+◌, ◌<◌, ◌≤◌, Bool, true, false, cond, eqb, List, [], ◌∷◌, length, get_or, replicate, is_some, Some, None, Option, sym, refl, ap, ◌∙◌, subst, ap₂, ⊎_elim, arith, lit<}
use lib.ListN.{length-replicate}
use Rattle.std.proofs.lemmas.Bool.{cond_both, cases_eq, both_ways, eq-eqb, ne_eqb}
use Rattle.code.specs.Blocks.{Block, block_size, ◌⊕◌, zeros}
use Rattle.code.specs.Codes.{Coding, Lawful}
use Rattle.code.proofs.Blocks.{xor, block_add, block_zeros, zeros_zeros, add_zeros, add_self, self_left, bytes_zeros}
use Rattle.parity.specs.Stripe.{Content, Holds, Fits, column, sum, gaps}
use Rattle.parity.specs.Theorems.{Free}
use Rattle.parity.proofs.Sums.{sum_add, sum_cong, sum_block, alone, alone_sum, put_same, put_other, put_block}
use Rattle.parity.proofs.Columns.{kind, is_data, is_P, is_Q, column_data, column_P, column_Q, mix_zeros}
use Rattle.parity.proofs.Gaps.{gaps_first, missing_parts}

-- other missing data columns
pub record Other (cols : ℕ → Option (List ℕ)) (k i j : ℕ) : Type 0 where
  pub below : j < k
  pub lost : is_some (cols j) ≡ false
  pub apart : j ≡ i → ⊥

other_one : (cols : ℕ → Option (List ℕ)) (k i : ℕ) (g : List ℕ) → gaps cols k ≡ g → 2 ≤ length g → (j : ℕ) × Other cols k i j
other_one cols k i [] e h = absurd (omega arith)
other_one cols k i (a ∷ []) e h = absurd (omega arith)
other_one cols k i (a ∷ (b ∷ g)) e h =
    let f = gaps_first cols k a (b ∷ g) e in
    let s = gaps_first cols a b g f.2 in
    ⊎_elim
    (λ (q : a ≡ i). (b, record { below = omega (arith, f.0, s.0); lost = s.1; apart = omega (arith, s.0) }))
    (λ (n : a ≡ i → ⊥). (a, record { below = f.0; lost = f.1; apart = n }))
    (cases_eq a i)

other_two : (cols : ℕ → Option (List ℕ)) (k i : ℕ) (g : List ℕ) → gaps cols k ≡ g → 3 ≤ length g → (j : ℕ) × (l : ℕ) × Other cols k i j × Other cols k i l × (j ≡ l → ⊥)
other_two cols k i [] e h = absurd (omega arith)
other_two cols k i (a ∷ []) e h = absurd (omega arith)
other_two cols k i (a ∷ (b ∷ [])) e h = absurd (omega arith)
other_two cols k i (a ∷ (b ∷ (d ∷ g))) e h =
    let f = gaps_first cols k a (b ∷ (d ∷ g)) e in
    let s = gaps_first cols a b (d ∷ g) f.2 in
    let t = gaps_first cols b d g s.2 in
    let fa : a < k = f.0 in
    let fb : b < a = s.0 in
    let fd : d < b = t.0 in
    ⊎_elim
    (λ (q : a ≡ i). (b, d, record { below = omega arith; lost = s.1; apart = omega arith }, record { below = omega arith; lost = t.1; apart = omega arith }, omega arith))
    (λ (n : a ≡ i → ⊥). ⊎_elim
    (λ (q : b ≡ i). (a, d, record { below = fa; lost = f.1; apart = n }, record { below = omega arith; lost = t.1; apart = omega arith }, omega arith))
    (λ (m : b ≡ i → ⊥). (a, b, record { below = fa; lost = f.1; apart = n }, record { below = omega arith; lost = s.1; apart = m }, omega arith))
    (cases_eq b i))
    (cases_eq a i)

holds_to : (o : Option (List ℕ)) (x y : List ℕ) → (is_some o ≡ true → x ≡ y) → Holds o x → Holds o y
holds_to None x y e h = tt
holds_to (Some a) x y e h = h ∙ e refl

module _ (C : Coding) (L : Lawful block_size C) (k : ℕ) (kw : k ≤ C.limit) where
  mix_alone : (i : ℕ) (x : List ℕ) (t : ℕ) → t < k → C.mix t (alone i x t) ≡ alone i (C.mix i x) t
  mix_alone i x t l =
      ⊎_elim
      (λ (e : t ≡ i). rw (eq-eqb t i e) (ap (λ n. C.mix n x) e))
      (λ (n : t ≡ i → ⊥). rw (ne_eqb t i n) (mix_zeros C L k kw t l))
      (cases_eq t i)

  -- a difference at three columns
  module _ (i j l : ℕ) (li : i < k) (lj : j < k) (ll : l < k) (x y z : List ℕ) (bx : Block x) (by : Block y) (bz : Block z) where
    abbrev diff : ℕ → List ℕ
    diff t = alone i x t ⊕ (alone j y t ⊕ alone l z t)

    alone_block : (n : ℕ) (v : List ℕ) → Block v → (t : ℕ) → Block (alone n v t)
    alone_block n v b t = put_block (λ _. zeros) n v b t block_zeros

    diff_block : (t : ℕ) → Block (diff t)
    diff_block t = block_add _ _ (alone_block i x bx t) (block_add _ _ (alone_block j y by t) (alone_block l z bz t))

    diff_sum : sum k diff ≡ x ⊕ (y ⊕ z)
    diff_sum =
        sum_add k (alone i x) (λ t. alone j y t ⊕ alone l z t)
        ∙ ap₂ ◌⊕◌ (alone_sum k i x li bx) (sum_add k (alone j y) (alone l z) ∙ ap₂ ◌⊕◌ (alone_sum k j y lj by) (alone_sum k l z ll bz))

    diff_mix : sum k (λ t. C.mix t (diff t)) ≡ C.mix i x ⊕ (C.mix j y ⊕ C.mix l z)
    diff_mix =
        sum_cong k (λ t. C.mix t (diff t)) (λ t. alone i (C.mix i x) t ⊕ (alone j (C.mix j y) t ⊕ alone l (C.mix l z) t))
        (λ t m.
        let ai = alone_block i x bx t in
        let aj = alone_block j y by t in
        let al = alone_block l z bz t in
        L.linear t (omega arith) (alone i x t) (alone j y t ⊕ alone l z t) ai (block_add _ _ aj al)
        ∙ ap₂ ◌⊕◌ (mix_alone i x t m) (L.linear t (omega arith) (alone j y t) (alone l z t) aj al ∙ ap₂ ◌⊕◌ (mix_alone j y t m) (mix_alone l z t m)))
        ∙ sum_add k (alone i (C.mix i x)) (λ t. alone j (C.mix j y) t ⊕ alone l (C.mix l z) t)
        ∙ ap₂ ◌⊕◌ (alone_sum k i (C.mix i x) li ((L.single i (omega arith)).there x bx))
        (sum_add k (alone j (C.mix j y)) (alone l (C.mix l z))
        ∙ ap₂ ◌⊕◌ (alone_sum k j (C.mix j y) lj ((L.single j (omega arith)).there y by)) (alone_sum k l (C.mix l z) ll ((L.single l (omega arith)).there z bz)))

  -- a content that fits, changed by a difference that no present column shows
  module _ (cols : ℕ → Option (List ℕ)) (c : ℕ → List ℕ) (hc : Content k c) (fit : Fits C k c cols) where
    shifted : (δ : ℕ → List ℕ) → Content k δ → ((t : ℕ) → t < k → is_some (cols t) ≡ true → δ t ≡ zeros)
        → (is_some (cols k) ≡ true → sum k δ ≡ zeros) → (is_some (cols (k + 1)) ≡ true → sum k (λ j. C.mix j (δ j)) ≡ zeros) → Fits C k (λ t. c t ⊕ δ t) cols
    shifted δ hδ zd zp zq t lt =
        holds_to (cols t) (column C k c t) (column C k (λ u. c u ⊕ δ u) t)
        (λ p. elim (kind k t lt) [
          | is_data l ↦ column_data C k c t l ∙ sym (ap (λ v. c t ⊕ v) (zd t l p) ∙ add_zeros (c t) (hc t l)) ∙ sym (column_data C k (λ u. c u ⊕ δ u) t l)
          | is_P e ↦
              column_P C k c t e ∙ sym (sum_add k c δ ∙ ap (λ v. sum k c ⊕ v) (zp (subst (λ n. is_some (cols n) ≡ true) e p)) ∙ add_zeros (sum k c) (sum_block k c hc))
              ∙ sym (column_P C k (λ u. c u ⊕ δ u) t e)
          | is_Q e ↦
              column_Q C k c t e
              ∙ sym (sum_cong k (λ j. C.mix j (c j ⊕ δ j)) (λ j. C.mix j (c j) ⊕ C.mix j (δ j)) (λ j l. L.linear j (omega arith) (c j) (δ j) (hc j l) (hδ j l))
              ∙ sum_add k (λ j. C.mix j (c j)) (λ j. C.mix j (δ j))
              ∙ ap (λ v. sum k (λ j. C.mix j (c j)) ⊕ v) (zq (subst (λ n. is_some (cols n) ≡ true) e p))
              ∙ add_zeros (sum k (λ j. C.mix j (c j))) (sum_block k (λ j. C.mix j (c j)) (λ j l. (L.single j (omega arith)).there (c j) (hc j l))))
              ∙ sym (column_Q C k (λ u. c u ⊕ δ u) t e)
        ])
        (fit t lt)

    alone_present : (n : ℕ) (v : List ℕ) → is_some (cols n) ≡ false → (t : ℕ) → is_some (cols t) ≡ true → alone n v t ≡ zeros
    alone_present n v h t p = put_other (λ _. zeros) n v t (λ e. both_ways _ h (subst (λ m. is_some (cols m) ≡ true) e p))

    -- the free column i differs by x, and two more make up for it
    freed : (i j l : ℕ) (li : i < k) (lj : j < k) (ll : l < k) (x y z : List ℕ) → Block x → Block y → Block z
        → is_some (cols i) ≡ false → is_some (cols j) ≡ false → is_some (cols l) ≡ false → alone j y i ≡ zeros → alone l z i ≡ zeros → (x ≡ zeros → ⊥)
        → (is_some (cols k) ≡ true → x ⊕ (y ⊕ z) ≡ zeros) → (is_some (cols (k + 1)) ≡ true → C.mix i x ⊕ (C.mix j y ⊕ C.mix l z) ≡ zeros)
        → (d : ℕ → List ℕ) × Content k d × Fits C k d cols × (d i ≡ c i → ⊥)
    freed i j l li lj ll x y z bx by bz hi hj hl yi zi nx zp zq =
        let δ : ℕ → List ℕ = diff i j l li lj ll x y z bx by bz in
        let hδ : Content k δ = λ t _. diff_block i j l li lj ll x y z bx by bz t in
        let at_i : δ i ≡ x = ap₂ (λ u v. u ⊕ v) (put_same (λ _. zeros) i x) (ap₂ ◌⊕◌ yi zi ∙ zeros_zeros) ∙ add_zeros x bx in (
          (λ t. c t ⊕ δ t),
          (λ t m. block_add _ _ (hc t m) (hδ t m)),
          shifted δ hδ
              (λ t m p. ap₂ ◌⊕◌ (alone_present i x hi t p) (ap₂ ◌⊕◌ (alone_present j y hj t p) (alone_present l z hl t p) ∙ zeros_zeros) ∙ zeros_zeros)
              (λ p. diff_sum i j l li lj ll x y z bx by bz ∙ zp p)
              (λ p. diff_mix i j l li lj ll x y z bx by bz ∙ zq p),
          (λ e. nx (sym at_i ∙ sym (self_left (c i) (δ i) (hc i li) (hδ i li)) ∙ ap (λ v. c i ⊕ v) e ∙ add_self (c i) (hc i li))),
        )

    zero_alone : (n i : ℕ) → alone n zeros i ≡ zeros
    zero_alone n i = cond_both (eqb i n) zeros zeros (λ v. v ≡ zeros) (λ _. refl) (λ _. refl)

    module _ (i : ℕ) (li : i < k) (hi : is_some (cols i) ≡ false) (x : List ℕ) (bx : Block x) (nx : x ≡ zeros → ⊥) where
      free : (p q : Bool) → is_some (cols k) ≡ p → is_some (cols (k + 1)) ≡ q → 3 ≤ length (gaps cols k) + cond p 0 1 + cond q 0 1
          → (d : ℕ → List ℕ) × Content k d × Fits C k d cols × (d i ≡ c i → ⊥)
      free true true ep eq n =
          let two = other_two cols k i (gaps cols k) refl (omega arith) in
          let j = two.0 in
          let l = two.1 in
          let oj : Other cols k i j = two.2 in
          let ol : Other cols k i l = two.3 in
          let lj : j < k = oj.below in
          let ll : l < k = ol.below in
          let bi = (L.single i (omega arith)).there x bx in
          let bj = (L.single j (omega arith)).there x bx in
          let w : List ℕ = C.mix i x ⊕ C.mix j x in
          let z : List ℕ = C.unpair j l w in
          let bz : Block z = (L.double j l (omega arith) (omega arith) two.4).back w (block_add _ _ bi bj) in
          let bjz = (L.single j (omega arith)).there z bz in
          let blz = (L.single l (omega arith)).there z bz in
          let pz : C.mix j z ⊕ C.mix l z ≡ C.mix i x ⊕ C.mix j x = (L.double j l (omega arith) (omega arith) two.4).redone w (block_add _ _ bi bj) in
          freed i j l li lj ll x (x ⊕ z) z bx (block_add _ _ bx bz) bz hi oj.lost ol.lost
          (put_other (λ _. zeros) j (x ⊕ z) i (λ e. oj.apart (sym e))) (put_other (λ _. zeros) l z i (λ e. ol.apart (sym e))) nx
          (λ _. simp xor)
          (λ _. ap (λ v. C.mix i x ⊕ (v ⊕ C.mix l z)) (L.linear j (omega arith) x z bx bz)
          ∙ (let r : C.mix i x ⊕ (C.mix j x ⊕ C.mix j z ⊕ C.mix l z) ≡ C.mix i x ⊕ C.mix j x ⊕ (C.mix j z ⊕ C.mix l z) = simp xor in r)
          ∙ ap (λ v. C.mix i x ⊕ C.mix j x ⊕ v) pz ∙ add_self _ (block_add _ _ bi bj))
      free true false ep eq n =
          let one = other_one cols k i (gaps cols k) refl (omega arith) in
          let j = one.0 in
          let oj : Other cols k i j = one.1 in
          freed i j i li oj.below li x x zeros bx bx block_zeros hi oj.lost hi
          (put_other (λ _. zeros) j x i (λ e. oj.apart (sym e))) (zero_alone i i) nx
          (λ _. simp xor)
          (λ r. absurd (both_ways _ eq r))
      free false true ep eq n =
          let one = other_one cols k i (gaps cols k) refl (omega arith) in
          let j = one.0 in
          let oj : Other cols k i j = one.1 in
          let lj : j < k = oj.below in
          let bi = (L.single i (omega arith)).there x bx in
          let y : List ℕ = C.unmix j (C.mix i x) in
          let by : Block y = (L.single j (omega arith)).back (C.mix i x) bi in
          freed i j i li lj li x y zeros bx by block_zeros hi oj.lost hi
          (put_other (λ _. zeros) j y i (λ e. oj.apart (sym e))) (zero_alone i i) nx
          (λ r. absurd (both_ways _ ep r))
          (λ _. ap₂ (λ u v. C.mix i x ⊕ (u ⊕ v)) ((L.single j (omega arith)).redone (C.mix i x) bi) (mix_zeros C L k kw i li) ∙ simp xor)
      free false false ep eq n =
          freed i i i li li li x zeros zeros bx block_zeros block_zeros hi hi hi (zero_alone i i) (zero_alone i i) nx
          (λ r. absurd (both_ways _ ep r))
          (λ r. absurd (both_ways _ eq r))

-- a block that is not zeros
abbrev one_block : List ℕ
one_block = 1 ∷ replicate 511 0

one_is_block : Block one_block
one_is_block = record { long = ap suc (length-replicate {A = ℕ} 511 0); bytes = λ i. bytes i }
  where
    bytes : (i : ℕ) → get_or one_block i 0 < 256
    bytes zero = lit< tt
    bytes (suc i) = bytes_zeros 511 i

one_not_zeros : one_block ≡ zeros → ⊥
unfolding zeros
one_not_zeros e = cc

pub free_column : Free
free_column C L k kw cols c hc fit i li hi n =
    free C L k kw cols c hc fit i li hi one_block one_is_block one_not_zeros (is_some (cols k)) (is_some (cols (k + 1))) refl refl (rw (missing_parts cols k) at n)
