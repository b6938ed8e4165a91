-- Sums of blocks by index.
use Rattle.std.proofs.Common.{◌≡◌, ℕ, zero, suc, ◌+◌, ◌<◌, eqb, List, sym, refl, ap, ◌∙◌, ap₂, ⊎_elim, add-one, arith}
use native.Mathlib.Numerals.{add-two}
use Rattle.std.proofs.lemmas.Bool.{cond-true, cond-false, cond_both, cases_eq, eq-eqb, ne_eqb}
use Rattle.code.specs.Blocks.{Block, ◌⊕◌, zeros}
use Rattle.code.proofs.Blocks.{xor, block_add, block_zeros, zeros_add, add_zeros, add_self}
use Rattle.parity.specs.Stripe.{Content, sum, put}

pub sum_block : (k : ℕ) (f : ℕ → List ℕ) → Content k f → Block (sum k f)
unfolding sum
sum_block zero f h = block_zeros
sum_block (suc k) f h = block_add _ _ (sum_block k f (λ i l. h i (omega arith))) (h k (omega arith))

pub sum_cong : (k : ℕ) (f g : ℕ → List ℕ) → ((i : ℕ) → i < k → f i ≡ g i) → sum k f ≡ sum k g
unfolding sum
sum_cong zero f g h = refl
sum_cong (suc k) f g h = ap₂ ◌⊕◌ (sum_cong k f g (λ i l. h i (omega arith))) (h k (omega arith))

pub sum_add : (k : ℕ) (f g : ℕ → List ℕ) → sum k (λ i. f i ⊕ g i) ≡ sum k f ⊕ sum k g
unfolding sum
sum_add zero f g = simp xor
sum_add (suc k) f g = rw (sum_add k f g) (simp xor)

pub sum_zeros : (k : ℕ) (f : ℕ → List ℕ) → ((i : ℕ) → i < k → f i ≡ zeros) → sum k f ≡ zeros
unfolding sum
sum_zeros zero f h = refl
sum_zeros (suc k) f h = rw (sum_zeros k f (λ i l. h i (omega arith)), h k (omega arith)) (simp xor)

-- a sum in which all but one place is zeros
pub sum_one : (k : ℕ) (f : ℕ → List ℕ) (i : ℕ) → i < k → Block (f i) → ((j : ℕ) → j < k → (j ≡ i → ⊥) → f j ≡ zeros) → sum k f ≡ f i
unfolding sum
sum_one zero f i l b h = absurd (omega arith)
sum_one (suc k) f i l b h =
    ⊎_elim
    (λ (e : i ≡ k). rw (sum_zeros k f (λ j m. h j (omega arith) (λ q. omega arith)), e) (zeros_add (f k) (rw e at b)))
    (λ (n : i ≡ k → ⊥). rw (sum_one k f i (omega arith) b (λ j m q. h j (omega arith) q), h k (omega arith) (λ q. n (sym q))) (add_zeros (f i) b))
    (cases_eq i k)

-- one place changed
pub sum_put : (k : ℕ) (f g : ℕ → List ℕ) (i : ℕ) → i < k → Content k f → Content k g → ((j : ℕ) → j < k → (j ≡ i → ⊥) → g j ≡ f j) → sum k g ≡ sum k f ⊕ (f i ⊕ g i)
sum_put k f g i l hf hg h =
    let bf = sum_block k f hf in
    let bg = sum_block k g hg in
    let one : sum k (λ j. f j ⊕ g j) ≡ f i ⊕ g i = sum_one k (λ j. f j ⊕ g j) i l (block_add _ _ (hf i l) (hg i l)) (λ j m n. rw (h j m n) (add_self (f j) (hf j m))) in
    rw (← one, sum_add k f g) (simp xor)

-- x at one place, and zeros elsewhere
abbrev pub alone : ℕ → List ℕ → ℕ → List ℕ
alone i x = put (λ _. zeros) i x

pub put_same : (c : ℕ → List ℕ) (i : ℕ) (v : List ℕ) → put c i v i ≡ v
put_same c i v = cond-true _ _ _ (eq-eqb i i refl)

pub put_other : (c : ℕ → List ℕ) (i : ℕ) (v : List ℕ) (t : ℕ) → (t ≡ i → ⊥) → put c i v t ≡ c t
put_other c i v t n = cond-false _ _ _ (ne_eqb t i n)

pub put_block : (c : ℕ → List ℕ) (i : ℕ) (v : List ℕ) → Block v → (t : ℕ) → Block (c t) → Block (put c i v t)
put_block c i v h t b = cond_both (eqb t i) v (c t) Block (λ _. h) (λ _. b)

pub alone_sum : (k i : ℕ) (x : List ℕ) → i < k → Block x → sum k (alone i x) ≡ x
alone_sum k i x l b =
    sum_one k (alone i x) i l (rw (put_same (λ _. zeros) i x) b) (λ j m n. put_other (λ _. zeros) i x j n) ∙ put_same (λ _. zeros) i x

-- ---- a loop's start and step
pub sum_none : (f : ℕ → List ℕ) → sum 0 f ≡ zeros
unfolding sum
sum_none f = refl

pub sum_more : (f : ℕ → List ℕ) (i : ℕ) → sum (i + 1) f ≡ sum i f ⊕ f i
unfolding sum
sum_more f i = rw add-one

pub sum_step : (f : ℕ → List ℕ) (i : ℕ) (s t : List ℕ) → s ≡ sum i f → t ≡ s ⊕ f i → t ≡ sum (i + 1) f
sum_step f i s t h e = e ∙ ap (λ x. x ⊕ f i) h ∙ sym (sum_more f i)

-- the last two places on their own
pub sum_two_more : (f : ℕ → List ℕ) (k : ℕ) → sum (k + 2) f ≡ sum k f ⊕ f k ⊕ f (k + 1)
unfolding sum
sum_two_more f k = rw (add-two, add-one)
