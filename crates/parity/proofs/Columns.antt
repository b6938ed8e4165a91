-- The three kinds of column: data, P and Q.
use Rattle.std.proofs.Common.{◌≡◌, ℕ, ◌+◌, ◌<◌, ◌≤◌, cond, List, is_some, Some, None, Option, sym, refl, ap, ◌∙◌, ⊎_elim, arith}
use Rattle.std.proofs.lemmas.Bool.{cond-true, cond-false, cases_eq, cases_lt, lt-ltb, le-ltb, le-leb, lt-leb, eq-eqb, ne_eqb}
use Rattle.code.specs.Blocks.{block_size, zeros}
use Rattle.code.specs.Codes.{Coding, Lawful}
use Rattle.code.proofs.Blocks.{xor, block_zeros, zeros_zeros}
use Rattle.parity.specs.Stripe.{sum, column, Holds, plain_part, mixed_part, if_present}
use Rattle.parity.proofs.Sums.{sum_cong}

pub data Kind (k t : ℕ) : Type 0 where
  is_data : t < k → Kind k t
  is_P : t ≡ k → Kind k t
  is_Q : t ≡ k + 1 → Kind k t

pub kind : (k t : ℕ) → t < k + 2 → Kind k t
kind k t l =
    ⊎_elim
    (λ (m : t < k). is_data m)
    (λ (m : k ≤ t). ⊎_elim (λ (e : t ≡ k). is_P e) (λ (n : t ≡ k → ⊥). is_Q (omega arith)) (cases_eq t k))
    (cases_lt t k)

pub column_data : (C : Coding) (k : ℕ) (c : ℕ → List ℕ) (t : ℕ) → t < k → column C k c t ≡ c t
unfolding column
column_data C k c t l = cond-true _ _ _ (lt-ltb t k l)

pub column_P : (C : Coding) (k : ℕ) (c : ℕ → List ℕ) (t : ℕ) → t ≡ k → column C k c t ≡ sum k c
unfolding column
column_P C k c t e = cond-false _ _ _ (le-ltb t k (omega arith)) ∙ cond-true _ _ _ (eq-eqb t k e)

pub column_Q : (C : Coding) (k : ℕ) (c : ℕ → List ℕ) (t : ℕ) → t ≡ k + 1 → column C k c t ≡ sum k (λ j. C.mix j (c j))
unfolding column
column_Q C k c t e = cond-false _ _ _ (le-ltb t k (omega arith)) ∙ cond-false _ _ _ (ne_eqb t k (omega arith))

-- a column is given by the data columns alone
pub column_cong : (C : Coding) (k : ℕ) (c d : ℕ → List ℕ) → ((i : ℕ) → i < k → c i ≡ d i) → (t : ℕ) → t < k + 2 → column C k c t ≡ column C k d t
column_cong C k c d h t l =
    elim (kind k t l) [
      | is_data m ↦ column_data C k c t m ∙ h t m ∙ sym (column_data C k d t m)
      | is_P e ↦ column_P C k c t e ∙ sum_cong k c d h ∙ sym (column_P C k d t e)
      | is_Q e ↦ column_Q C k c t e ∙ sum_cong k (λ j. C.mix j (c j)) (λ j. C.mix j (d j)) (λ i m. ap (C.mix i) (h i m)) ∙ sym (column_Q C k d t e)
    ]

-- a mixing of zeros is zeros
pub mix_zeros : (C : Coding) → Lawful block_size C → (k : ℕ) → k ≤ C.limit → (j : ℕ) → j < k → C.mix j zeros ≡ zeros
mix_zeros C L k kw j l =
    let b = (L.single j (omega arith)).there zeros block_zeros in
    sym (ap (C.mix j) zeros_zeros) ∙ L.linear j (omega arith) zeros zeros block_zeros block_zeros ∙ simp xor

-- ---- what each adds to the two sums
pub plain_low : (k t : ℕ) (b : List ℕ) → t ≤ k → plain_part k t b ≡ b
plain_low k t b l = cond-true _ _ _ (le-leb t k l)

pub plain_Q : (k t : ℕ) (b : List ℕ) → k < t → plain_part k t b ≡ zeros
plain_Q k t b l = cond-false _ _ _ (lt-leb t k l)

pub mixed_data : (C : Coding) (k t : ℕ) (b : List ℕ) → t < k → mixed_part C k t b ≡ C.mix t b
mixed_data C k t b l = cond-true _ _ _ (lt-ltb t k l)

pub mixed_P : (C : Coding) (k t : ℕ) (b : List ℕ) → t ≡ k → mixed_part C k t b ≡ zeros
mixed_P C k t b e = cond-false _ _ _ (le-ltb t k (omega arith)) ∙ cond-true _ _ _ (eq-eqb t k e)

pub mixed_Q : (C : Coding) (k t : ℕ) (b : List ℕ) → k < t → mixed_part C k t b ≡ b
mixed_Q C k t b l = cond-false _ _ _ (le-ltb t k (omega arith)) ∙ cond-false _ _ _ (ne_eqb t k (omega arith))

-- ---- what a column that holds x adds
pub part_is : (f : List ℕ → List ℕ) (o : Option (List ℕ)) (x y : List ℕ) → Holds o x → f x ≡ y → if_present f o ≡ cond (is_some o) y zeros
part_is f None x y h e = refl
part_is f (Some a) x y h e = rw h e

pub part_none : (f : List ℕ → List ℕ) (o : Option (List ℕ)) → ((b : List ℕ) → f b ≡ zeros) → if_present f o ≡ zeros
part_none f None e = refl
part_none f (Some a) e = e a
