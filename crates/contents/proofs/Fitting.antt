-- What fits, stripe by stripe and slot by slot.
use Rattle.std.proofs.Common.{◌≡◌, ℕ, ◌+◌, ◌*◌, ◌<◌, ◌≤◌, false, List, Option, sym, refl, ◌∙◌, subst, ⊎_elim, div-add-mod' as div-add-mod'', arith}
use lib.Arith.{digits_lt}
use Rattle.std.proofs.lemmas.Nat.{div_below, mod_below}
use Rattle.std.proofs.lemmas.Bool.{ltb-false, cases_lt}
use Rattle.code.specs.Blocks.{Block, zeros, block_size}
use Rattle.code.specs.Codes.{Coding, Lawful}
use Rattle.parity.specs.Stripe.{Content, column, Holds, Fits}
use Rattle.parity.proofs.Columns.{kind, is_data, is_P, is_Q, column_data, column_P, column_Q, column_cong, mix_zeros}
use Rattle.parity.proofs.Sums.{sum_block, sum_zeros}
use Rattle.parity.proofs.Solving.{recovers}
use Rattle.contents.specs.Columns.{Members, Frontiers, held}
use Rattle.contents.specs.Shapes.{Shape, Valid, data_columns, blocks, stripe_of, column_of, columns_at, missing_at, lossy, recovered_at, stripe, FitsVolume}

-- ---- the columns of a stripe
pub fits_cong : (C : Coding) (k : ℕ) (c d : ℕ → List ℕ) (cols : ℕ → Option (List ℕ)) → ((i : ℕ) → i < k → c i ≡ d i) → Fits C k c cols → Fits C k d cols
fits_cong C k c d cols h f t l = subst (λ (b : List ℕ). Holds (cols t) b) (column_cong C k c d h t l) (f t l)

module _ (C : Coding) (L : Lawful block_size C) (k : ℕ) (kw : k ≤ C.limit) where
  pub column_block : (c : ℕ → List ℕ) → Content k c → (t : ℕ) → t < k + 2 → Block (column C k c t)
  column_block c h t l =
      elim (kind k t l) [
        | is_data m ↦ subst Block (sym (column_data C k c t m)) (h t m)
        | is_P e ↦ subst Block (sym (column_P C k c t e)) (sum_block k c h)
        | is_Q e ↦ subst Block (sym (column_Q C k c t e)) (sum_block k (λ j. C.mix j (c j)) (λ j m. (L.single j (omega arith)).there (c j) (h j m)))
      ]

  pub column_zeros : (t : ℕ) → t < k + 2 → column C k (λ _. zeros) t ≡ zeros
  column_zeros t l =
      elim (kind k t l) [
        | is_data m ↦ column_data C k (λ _. zeros) t m
        | is_P e ↦ column_P C k (λ _. zeros) t e ∙ sum_zeros k (λ _. zeros) (λ i m. refl)
        | is_Q e ↦ column_Q C k (λ _. zeros) t e ∙ sum_zeros k (λ j. C.mix j zeros) (mix_zeros C L k kw)
      ]

-- ---- what a volume's code gives for column t of stripe s
abbrev pub gives : Shape → (ℕ → List ℕ) → ℕ → ℕ → List ℕ
gives V c s t = column V.code (data_columns V) (stripe V c s) t

module _ (V : Shape) (L : Valid V) where
  pub reaches : data_columns V ≤ V.code.limit
  reaches = let h = L.reach in omega arith

  pub some_data : 0 < V.stripes → 0 < data_columns V
  some_data l = let h = L.wide l in omega arith

  pub width : 0 < V.stripes → data_columns V + 2 ≡ V.slots
  width l = let h = L.wide l in omega arith

  pub some_stripe : (a : ℕ) → a < blocks V → 0 < V.stripes
  some_stripe a l =
      ⊎_elim
      (λ (h : 0 < V.stripes). h)
      (λ (h : V.stripes ≤ 0).
      let z : a < 0 * data_columns V = subst (λ (x : ℕ). a < x * data_columns V) (omega arith) l in
      absurd (omega arith))
      (cases_lt 0 V.stripes)

  -- ---- the place of block a
  pub stripe_below : (a : ℕ) → a < blocks V → stripe_of V a < V.stripes
  stripe_below a l = div_below a (data_columns V) V.stripes (some_data (some_stripe a l)) l

  pub column_below : (a : ℕ) → a < blocks V → column_of V a < data_columns V
  column_below a l = mod_below a (data_columns V) (some_data (some_stripe a l))

  pub block_at : (a : ℕ) → stripe_of V a * data_columns V + column_of V a ≡ a
  block_at a = div-add-mod'' a (data_columns V)

  -- ---- a content that fits
  module _ (M : Members) (F : Frontiers) (c : ℕ → List ℕ) (f : FitsVolume V M F c) (s : ℕ) (ls : s < V.stripes) where
    pub content_stripe : Content (data_columns V) (stripe V c s)
    content_stripe i l = f.blocks (s * data_columns V + i) (digits_lt ls l)

    pub gives_block : (t : ℕ) → t < data_columns V + 2 → Block (gives V c s t)
    gives_block = column_block V.code L.lawful (data_columns V) reaches (stripe V c s) content_stripe

    -- what is recovered of it
    pub recovered_is : lossy V M F s ≡ false → (t : ℕ) → t < data_columns V + 2 → recovered_at V M F s t ≡ gives V c s t
    recovered_is p = recovers V.code L.lawful (data_columns V) reaches (columns_at V M F s) (stripe V c s) content_stripe (f.fits s ls) (ltb-false 2 (missing_at V M F s) p)

    -- what it holds on slot j
    pub by_slot : (j : ℕ) → j < V.slots → Holds (held M F s j) (gives V c s (V.back s j))
    by_slot j l =
        let p = L.placed s in
        subst (λ (x : ℕ). Holds (held M F s x) (gives V c s (V.back s j))) (p.back j l)
        (f.fits s ls (V.back s j) (let b = p.column_below j l in let w = width (omega arith) in omega arith))

  -- a stripe fits if each slot holds what it should
  pub from_slots : (M : Members) (F : Frontiers) (c : ℕ → List ℕ) (s : ℕ) → s < V.stripes
      → ((j : ℕ) → j < V.slots → Holds (held M F s j) (gives V c s (V.back s j))) → Fits V.code (data_columns V) (stripe V c s) (columns_at V M F s)
  from_slots M F c s ls h t l =
      let p = L.placed s in
      let lt : t < V.slots = (let w = width (omega arith) in omega arith) in
      subst (λ (x : ℕ). Holds (held M F s (V.place s t)) (gives V c s x)) (p.there t lt) (h (V.place s t) (p.slot_below t lt))
