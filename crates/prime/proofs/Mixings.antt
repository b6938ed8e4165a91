-- The mixings of both codes as sums of shifted and repeated rows, which is how they are computed.
use Rattle.std.proofs.Common.{◌≡◌, ℕ, ◌+◌, ◌-◌, ◌*◌, ◌%◌, ◌<◌, ltb, List, length, get_or, sym, ap, ◌∙◌, inl, inr}
use native.Mathlib.Nat.{add-mod-mod}
use lib.Bits.{bit_xor, xor_zero_l}
use Rattle.std.proofs.lemmas.Bool.{cases_Bool, cond-true, cond-false, ltb-true}
use Rattle.code.specs.Blocks.{◌⊕◌}
use Rattle.code.proofs.Blocks.{add_assoc, length_add, get_or_add}
use Rattle.prime.specs.Rows.{xors, cell, rows, shifted, everywhere}
use Rattle.prime.specs.Diagonals.{walk, steps, closed, solved, inverse_below, gap, unpaired, unpaired_block, unadjusted, unadjusted_block, rdp, evenodd}
use Rattle.prime.proofs.Xors.{xors_same}
use Rattle.prime.proofs.Grids.{length_rows, cell_rows, is_rows, rows_same, rows_add}
use Rattle.prime.proofs.Sizes.{Sizes}

module _ (p w n : ℕ) (S : Sizes p w n) where
  -- a shift counts modulo p
  shifted_fold : (s : ℕ) (b : List ℕ) → shifted p w (s % p) b ≡ shifted p w s b
  shifted_fold s b = rows_same p w S.wide (λ r t. cell w b ((r + s % p) % p) t) (λ r t. cell w b ((r + s) % p) t) (λ r t _ _. ap (λ k. cell w b k t) (add-mod-mod r s p))

  -- two blocks of rows added one after the other
  both : (into x out : List ℕ) (f g : ℕ → ℕ → ℕ) → x ≡ into ⊕ rows p w f → out ≡ x ⊕ rows p w g → out ≡ into ⊕ rows p w (λ r t. bit_xor (f r t) (g r t))
  both into x out f g ex eo = eo ∙ ap (λ y. y ⊕ rows p w g) ex ∙ add_assoc into (rows p w f) (rows p w g) ∙ ap (λ y. into ⊕ y) (rows_add p w S.wide f g)

  pub rdp_mixed : (j : ℕ) (b into x out : List ℕ) → x ≡ into ⊕ shifted p w ((p - j) % p) b → out ≡ x ⊕ shifted p w 1 b → out ≡ into ⊕ (rdp p w).mix j b
  rdp_mixed j b into x out ex eo =
      both into x out (λ r t. cell w b ((r + (p - j)) % p) t) (λ r t. cell w b ((r + 1) % p) t) (ex ∙ ap (λ y. into ⊕ y) (shifted_fold (p - j) b)) eo

  pub evenodd_mixed : (j : ℕ) (b into x out : List ℕ) → x ≡ into ⊕ shifted p w ((p - j) % p) b → out ≡ x ⊕ everywhere p w (p - 1 - j) b → out ≡ into ⊕ (evenodd p w).mix j b
  evenodd_mixed j b into x out ex eo =
      both into x out (λ r t. cell w b ((r + (p - j)) % p) t) (λ _ t. cell w b (p - 1 - j) t) (ex ∙ ap (λ y. into ⊕ y) (shifted_fold (p - j) b)) eo

  zeros_add_rows : (z : List ℕ) (f : ℕ → ℕ → ℕ) → length z ≡ n → ((k : ℕ) → get_or z k 0 ≡ 0) → z ⊕ rows p w f ≡ rows p w f
  zeros_add_rows z f lz hz = is_rows p w S.wide (z ⊕ rows p w f) f (length_add ((p - 1) * w) z (rows p w f) (lz ∙ sym S.whole) lf) (λ r t l m.
      get_or_add z (rows p w f) (lz ∙ sym S.whole ∙ sym lf) (r * w + t) ∙ ap (λ y. bit_xor y (cell w (rows p w f) r t)) (hz (r * w + t)) ∙ xor_zero_l (cell w (rows p w f) r t) ∙ cell_rows p w S.wide f r t l m)
    where
      lf : length (rows p w f) ≡ (p - 1) * w
      lf = length_rows p w S.wide f

  pub evenodd_unmixed : (j : ℕ) (b z x out : List ℕ) → length z ≡ n → ((k : ℕ) → get_or z k 0 ≡ 0) → x ≡ z ⊕ shifted p w j b → out ≡ x ⊕ everywhere p w ((p - 1 + j) % p) b → out ≡ (evenodd p w).unmix j b
  evenodd_unmixed j b z x out lz hz ex eo =
      both z x out (λ r t. cell w b ((r + j) % p) t) (λ _ t. cell w b ((p - 1 + j) % p) t) ex eo
      ∙ zeros_add_rows z (λ r t. bit_xor (cell w b ((r + j) % p) t) (cell w b ((p - 1 + j) % p) t)) lz hz

-- what solves a column looks at the rows below p − 1 alone
closed_same : (p : ℕ) (a b : ℕ → ℕ) → ((r : ℕ) → r < p - 1 → a r ≡ b r) → (r : ℕ) → closed p a r ≡ closed p b r
closed_same p a b h r = elim (cases_Bool (ltb r (p - 1))) [
  | inl t ↦ cond-true (ltb r (p - 1)) (a r) (xors a (p - 1)) t ∙ h r (ltb-true r (p - 1) t) ∙ sym (cond-true (ltb r (p - 1)) (b r) (xors b (p - 1)) t)
  | inr f ↦ cond-false (ltb r (p - 1)) (a r) (xors a (p - 1)) f ∙ xors_same a b (p - 1) h ∙ sym (cond-false (ltb r (p - 1)) (b r) (xors b (p - 1)) f)
]

solved_same : (p u d e : ℕ) (a b : ℕ → ℕ) → ((r : ℕ) → r < p - 1 → a r ≡ b r) → (k : ℕ) → solved p u d e a k ≡ solved p u d e b k
unfolding solved
solved_same p u d e a b h k =
    xors_same (λ i. closed p a (walk p (p - 1 + u * (p - 1)) d i)) (λ i. closed p b (walk p (p - 1 + u * (p - 1)) d i)) (steps p (p - 1) e k) (λ i _. closed_same p a b h (walk p (p - 1 + u * (p - 1)) d i))

-- an EVENODD pair is solved after its adjuster is taken off
pub evenodd_unpaired : (p w n : ℕ) → Sizes p w n → (i j : ℕ) (b x out : List ℕ) → x ≡ unadjusted_block p w b → out ≡ unpaired_block p w (p - i) (p - j) x → out ≡ (evenodd p w).unpair i j b
evenodd_unpaired p w n S i j b x out ex eo =
    eo ∙ rows_same p w S.wide (λ k t. unpaired p (p - i) (p - j) (λ r. cell w x r t) k) (λ k t. unpaired p (p - i) (p - j) (unadjusted p (λ r. cell w b r t)) k) (λ k t _ ht.
    solved_same p (p - i) (gap p (p - i) (p - j)) (inverse_below p (gap p (p - i) (p - j)) p) (λ r. cell w x r t) (unadjusted p (λ r. cell w b r t)) (λ r hr.
    ap (λ (y : List ℕ). cell w y r t) ex ∙ cell_rows p w S.wide (λ r t. unadjusted p (λ k. cell w b k t) r) r t hr ht) k)
