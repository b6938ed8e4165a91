-- Laws of ⊕ over an index range.
use Rattle.std.proofs.Common.{◌≡◌, ℕ, zero, suc, ◌^◌, ◌<◌, ◌≤◌, cond, eqb, ◌⊎◌, sym, refl, ap, ◌∙◌, inl, inr, arith, pow_pos}
use lib.Bits.{bit_xor, xor_assoc, xor_self, xor_zero_r, xor_lt}
use Rattle.std.proofs.lemmas.Bool.{cases_eq, eq-eqb, ne_eqb}
use Rattle.code.proofs.Blocks.{xor_four}
use Rattle.prime.specs.Rows.{xors}

pub xor_cancel : (a b : ℕ) → bit_xor a (bit_xor a b) ≡ b
xor_cancel a b = sym (xor_assoc a a b) ∙ rw (xor_self a)

pub xor_same_l : (a x y : ℕ) → bit_xor a x ≡ bit_xor a y → x ≡ y
xor_same_l a x y h = sym (xor_cancel a x) ∙ ap (bit_xor a) h ∙ xor_cancel a y

pub xors_same : (f g : ℕ → ℕ) (n : ℕ) → ((i : ℕ) → i < n → f i ≡ g i) → xors f n ≡ xors g n
xors_same f g zero h = refl
xors_same f g (suc n) h = let a = xors_same f g n (λ i l. h i (omega arith)) in let b = h n (omega arith) in cc

pub xors_none : (n : ℕ) → xors (λ _. 0) n ≡ 0
xors_none zero = refl
xors_none (suc n) = rw (xors_none n)

pub xors_xor : (f g : ℕ → ℕ) (n : ℕ) → xors (λ i. bit_xor (f i) (g i)) n ≡ bit_xor (xors f n) (xors g n)
xors_xor f g zero = refl
xors_xor f g (suc n) = rw (xors_xor f g n) (xor_four (xors f n) (xors g n) (f n) (g n))

pub xors_swap : (f : ℕ → ℕ → ℕ) (m n : ℕ) → xors (λ i. xors (f i) m) n ≡ xors (λ j. xors (λ i. f i j) n) m
xors_swap f m zero = sym (xors_none m)
xors_swap f m (suc n) = ap (λ x. bit_xor x (xors (f n) m)) (xors_swap f m n) ∙ sym (xors_xor (λ j. xors (λ i. f i j) n) (f n) m)

-- the one term at a
pub xors_away : (a : ℕ) (f : ℕ → ℕ) (n : ℕ) → n ≤ a → xors (λ j. cond (eqb a j) (f j) 0) n ≡ 0
xors_away a f zero h = refl
xors_away a f (suc n) h = rw (xors_away a f n (omega arith), ne_eqb a n (λ e. omega arith))

pub xors_at : (a : ℕ) (f : ℕ → ℕ) (n : ℕ) → a < n → xors (λ j. cond (eqb a j) (f j) 0) n ≡ f a
xors_at a f zero h = absurd (omega arith)
xors_at a f (suc n) h =
    elim (cases_eq a n) [
      | inl e ↦ rw (xors_away a f n (omega arith), eq-eqb a n e) (ap f (sym e))
      | inr d ↦ rw (xors_at a f n (omega arith), ne_eqb a n d) (xor_zero_r (f a))
    ]

-- the ⊕ in another order
pub xors_order : (f σ τ : ℕ → ℕ) (n : ℕ) → ((i : ℕ) → i < n → σ i < n) → ((i : ℕ) → i < n → τ i < n) → ((i : ℕ) → i < n → τ (σ i) ≡ i) → ((i : ℕ) → i < n → σ (τ i) ≡ i) → xors (λ i. f (σ i)) n ≡ xors f n
xors_order f σ τ n σl τl τσ στ =
    xors_same (λ i. f (σ i)) (λ i. xors (λ j. cond (eqb (σ i) j) (f j) 0) n) n (λ i l. sym (xors_at (σ i) f n (σl i l)))
    ∙ xors_swap (λ i j. cond (eqb (σ i) j) (f j) 0) n n
    ∙ xors_same (λ j. xors (λ i. cond (eqb (σ i) j) (f j) 0) n) f n (λ j l.
    xors_same (λ i. cond (eqb (σ i) j) (f j) 0) (λ i. cond (eqb (τ j) i) (f j) 0) n (λ i k. ap (λ t. cond t (f j) 0) (flip i j k l))
    ∙ xors_at (τ j) (λ _. f j) n (τl j l))
  where
    flip : (i j : ℕ) → i < n → j < n → eqb (σ i) j ≡ eqb (τ j) i
    flip i j k l = go (cases_eq (σ i) j)
      where
        go : (σ i ≡ j) ⊎ (σ i ≡ j → ⊥) → eqb (σ i) j ≡ eqb (τ j) i
        go (inl e) = eq-eqb (σ i) j e ∙ sym (eq-eqb (τ j) i (ap τ (sym e) ∙ τσ i k))
        go (inr d) = ne_eqb (σ i) j d ∙ sym (ne_eqb (τ j) i (λ e. d (ap σ (sym e) ∙ στ j l)))

pub xors_lt : (k : ℕ) (f : ℕ → ℕ) (n : ℕ) → ((i : ℕ) → i < n → f i < 2 ^ k) → xors f n < 2 ^ k
xors_lt k f zero h = pow_pos k
xors_lt k f (suc n) h = xor_lt k (xors f n) (f n) (xors_lt k f n (λ i l. h i (omega arith))) (h n (omega arith))
