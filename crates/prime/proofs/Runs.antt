-- What long runs of ⊕ leave: a shifted block, a repeated row, the ⊕ of all rows.
use Rattle.std.proofs.Common.{◌≡◌, ℕ, ◌+◌, ◌-◌, ◌*◌, ◌%◌, ◌<◌, ◌≤◌, List, length, get_or, sym, ap, ◌∙◌, inl, inr, mod-eq_of_lt, mul_comm, add-mul, arith, rules}
use native.Mathlib.Nat.{mod-eq-sub-mod}
use borrow.Rule.Slice.PartMut.{put_mid}
use lib.Bits.{bit_xor, xor_zero_r}
use Rattle.std.specs.List.{between}
use Rattle.std.proofs.lemmas.List.{places, get_or_past, get_or-drop}
use Rattle.std.proofs.lemmas.Slice.{between_to_end}
use Rattle.std.proofs.lemmas.List.Edits.{get_or-between, length-between}
use Rattle.std.proofs.lemmas.Nat.{mul-add-lt}
use Rattle.std.proofs.lemmas.Bool.{cases_lt}
use Rattle.code.specs.Blocks.{◌⊕◌, onto}
use Rattle.code.proofs.Blocks.{length_add, get_or_add, length_onto, get_or_onto}
use Rattle.prime.specs.Rows.{cell, rows, shifted}
use Rattle.prime.proofs.Grids.{length_rows, cell_rows, same_cells}
use Rattle.prime.proofs.Sizes.{Sizes}

-- ---- a part of a list that was written
pub putMid_inside : (a k : ℕ) (xs ys : List ℕ) (i : ℕ) → a + k ≤ length xs → length ys ≡ k → i < k → get_or (put_mid a k xs ys) (a + i) 0 ≡ get_or ys i 0
putMid_inside a k xs ys i h l m = search (rules, places)

pub putMid_below : (a k : ℕ) (xs ys : List ℕ) (i : ℕ) → a + k ≤ length xs → length ys ≡ k → i < a → get_or (put_mid a k xs ys) i 0 ≡ get_or xs i 0
putMid_below a k xs ys i h l m = search (rules, places)

pub length_putMid : (a k : ℕ) (xs ys : List ℕ) → a + k ≤ length xs → length ys ≡ k → length (put_mid a k xs ys) ≡ length xs
length_putMid a k xs ys h l = search (rules, places)

get_or_to_end : (xs : List ℕ) (i n k : ℕ) → length xs ≡ n → get_or (between i n xs) k 0 ≡ get_or xs (i + k) 0
get_or_to_end xs i n k h = ap (λ (ys : List ℕ). get_or ys k 0) (between_to_end xs i n (omega arith)) ∙ get_or-drop i xs k 0

-- a block to which rows were added, from its cells
pub is_add_rows : (p w n : ℕ) → Sizes p w n → (out into : List ℕ) (f : ℕ → ℕ → ℕ) → length out ≡ n → length into ≡ n →
    ((r t : ℕ) → r < p - 1 → t < w → cell w out r t ≡ bit_xor (cell w into r t) (f r t)) → out ≡ into ⊕ rows p w f
is_add_rows p w n S out into f lo li h =
    same_cells p w S.wide out (into ⊕ rows p w f) (lo ∙ sym S.whole) (length_add ((p - 1) * w) into (rows p w f) (li ∙ sym S.whole) lf) (λ r t l m.
    h r t l m ∙ sym (get_or_add into (rows p w f) (li ∙ sym S.whole ∙ sym lf) (r * w + t) ∙ ap (bit_xor (cell w into r t)) (cell_rows p w S.wide f r t l m)))
  where
    lf : length (rows p w f) ≡ (p - 1) * w
    lf = length_rows p w S.wide f

-- Two runs make a shift by s: all from row s on is added at the start, and the s − 1 rows from the first on are added at the end.
pub two_runs : (p w n : ℕ) → Sizes p w n → (s : ℕ) → s < p → (b into first tail : List ℕ) (rest : ℕ) → length b ≡ n → length into ≡ n → rest ≡ (s - 1) * w →
    first ≡ onto into (between (s * w) n b) → tail ≡ onto (between (n - rest) n first) (between 0 rest b) →
    put_mid (n - rest) (n - (n - rest)) first tail ≡ into ⊕ shifted p w s b
two_runs p w n S s hs b into first tail rest lb li hr ef et = is_add_rows p w n S out into (λ r t. cell w b ((r + s) % p) t) lo li cells
  where
    out : List ℕ
    out = put_mid (n - rest) (n - (n - rest)) first tail

    fits : rest ≤ n
    fits = rw hr (S.run (s - 1) (omega (arith, S.big)))

    lf : length first ≡ n
    lf = ap length ef ∙ length_onto into (between (s * w) n b) ∙ li

    lt : length tail ≡ n - (n - rest)
    lt = ap length et ∙ length_onto (between (n - rest) n first) (between 0 rest b) ∙ length-between first (n - rest) n (omega (arith, lf))

    lo : length (put_mid (n - rest) (n - (n - rest)) first tail) ≡ n
    lo = length_putMid (n - rest) (n - (n - rest)) first tail (omega (arith, lf, fits)) lt ∙ lf

    at_first : (i : ℕ) → i < n → get_or first i 0 ≡ bit_xor (get_or into i 0) (get_or b (s * w + i) 0)
    at_first i l = ap (λ (xs : List ℕ). get_or xs i 0) ef ∙ get_or_onto into (between (s * w) n b) i (omega arith) ∙ ap (bit_xor (get_or into i 0)) (get_or_to_end b (s * w) n i lb)

    at_tail : (i : ℕ) → i < rest → get_or tail i 0 ≡ bit_xor (get_or first (n - rest + i) 0) (get_or b i 0)
    at_tail i l =
        ap (λ (xs : List ℕ). get_or xs i 0) et ∙ get_or_onto (between (n - rest) n first) (between 0 rest b) i (omega (arith, fits, length-between first (n - rest) n (omega (arith, lf))))
        ∙ ap (λ x. bit_xor x (get_or (between 0 rest b) i 0)) (get_or_to_end first (n - rest) n i lf)
        ∙ ap (bit_xor (get_or first (n - rest + i) 0)) (get_or-between b 0 rest i 0 (omega arith) ∙ ap (λ k. get_or b k 0) (omega arith))

    cells : (r t : ℕ) → r < p - 1 → t < w → cell w (put_mid (n - rest) (n - (n - rest)) first tail) r t ≡ bit_xor (cell w into r t) (cell w b ((r + s) % p) t)
    cells r t hr2 ht = elim (cases_lt (r + s) p) [
      | inl l ↦
          let low : (r + (s - 1)) * w + t < w * (p - 1) = mul-add-lt (r + (s - 1)) w t (p - 1) (omega arith) ht in
          let inside : r * w + t < n - rest = omega (arith, low, add-mul r (s - 1) w, S.whole, mul_comm w (p - 1), hr) in
          let place : s * w + (r * w + t) ≡ (r + s) * w + t = omega (arith, add-mul r s w) in
          let row : (r + s) % p ≡ r + s = mod-eq_of_lt l in
          putMid_below (n - rest) (n - (n - rest)) first tail (r * w + t) (omega (arith, lf, fits)) lt inside
          ∙ at_first (r * w + t) (omega arith)
          ∙ ap (bit_xor (cell w into r t)) (ap (λ k. get_or b k 0) place ∙ ap (λ k. cell w b k t) (sym row))
      | inr l ↦
          let row : (r + s) % p ≡ r + s - p = mod-eq-sub-mod l ∙ mod-eq_of_lt (omega arith) in
          let split : (r + (s - 1)) * w ≡ (r + s - p) * w + (p - 1) * w = ap (λ k. k * w) (omega arith) ∙ add-mul (r + s - p) (p - 1) w in
          let place : r * w + t ≡ n - rest + ((r + s - p) * w + t) = omega (arith, fits, split, add-mul r (s - 1) w, S.whole, hr) in
          let inside : (r + s - p) * w + t < rest = omega (arith, mul-add-lt (r + s - p) w t (s - 1) (omega arith) ht, mul_comm w (s - 1), hr) in
          let past : get_or b (s * w + (r * w + t)) 0 ≡ 0 = get_or_past b (s * w + (r * w + t)) 0 (omega (arith, split, add-mul r (s - 1) w, add-mul (s - 1) 1 w, S.whole, ap (λ k. k * w) (suc_pred s (omega arith)))) in
          ap (λ k. get_or (put_mid (n - rest) (n - (n - rest)) first tail) k 0) place
          ∙ putMid_inside (n - rest) (n - (n - rest)) first tail ((r + s - p) * w + t) (omega (arith, lf, fits)) lt (omega (arith, fits))
          ∙ at_tail ((r + s - p) * w + t) inside
          ∙ ap (λ x. bit_xor x (get_or b ((r + s - p) * w + t) 0)) (ap (λ k. get_or first k 0) (sym place) ∙ at_first (r * w + t) (omega (arith, S.within r hr2)) ∙ ap (bit_xor (cell w into r t)) past ∙ xor_zero_r (cell w into r t))
          ∙ ap (bit_xor (cell w into r t)) (ap (λ k. cell w b k t) (sym row))
    ]
      where
        suc_pred : (s : ℕ) → 0 < s → s ≡ s - 1 + 1
        suc_pred s h = omega arith
