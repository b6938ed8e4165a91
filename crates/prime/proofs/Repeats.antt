-- A row repeated over a block, and the ⊕ of the rows of a block.
use Rattle.std.proofs.Common.{◌≡◌, ℕ, zero, suc, ◌+◌, ◌-◌, ◌*◌, ◌%◌, ◌<◌, ◌≤◌, min, List, ◌++◌, length, get_or, take, drop, replicate, sym, refl, ap, ◌∙◌, inl, inr, mod-eq_of_lt, zero-mul, suc-mul, add-one, arith, rules}
use native.Mathlib.Nat.{mul-mod_left, mod_self}
use lib.Bits.{bit_xor, xor_zero_r, xor_assoc}
use Rattle.std.specs.List.{between}
use lib.Seq.{paste}
use Rattle.std.proofs.Math.Seq.{take-append_seam, drop-append_seam}
use Rattle.std.proofs.lemmas.List.{get_or_past, places, drop-drop, drop-take, length-append, length-drop}
use Rattle.std.proofs.lemmas.List.FromFn.{length-map-range_with_len, get_or-map-range_with_len}
use Rattle.std.proofs.lemmas.List.Edits.{get_or-between, length-between, length-paste}
use Rattle.std.proofs.lemmas.Nat.{mod-mul-add, mul-le}
use Rattle.std.proofs.lemmas.Slice.{between_is}
use Rattle.std.proofs.lemmas.Bool.{cases_lt, cases_order}
use Rattle.code.specs.Blocks.{◌⊕◌, onto}
use Rattle.code.proofs.Blocks.{length_onto, get_or_onto, onto_same, is_onto}
use Rattle.prime.specs.Rows.{cell, rows, repeated, everywhere, sum_at, row_sums}
use Rattle.prime.specs.Diagonals.{closed, unadjusted, unadjusted_block}
use Rattle.prime.proofs.Mods.{add_cong, add_cong_r}
use Rattle.prime.proofs.Shifts.{closed_in, closed_end}
use Rattle.prime.proofs.Grids.{length_rows, cell_rows, is_rows, rows_same}
use Rattle.prime.proofs.Sizes.{Sizes}
use Rattle.prime.proofs.Runs.{is_add_rows}

pub byte_of_zeros : (n k : ℕ) → ◌≡◌ {A = ℕ} (get_or (replicate n 0) k 0) 0
byte_of_zeros zero k = refl
byte_of_zeros (suc n) zero = refl
byte_of_zeros (suc n) (suc k) = byte_of_zeros n k

-- ---- one row of a block written over
pub paste_inside : (d : List ℕ) (at : ℕ) (s : List ℕ) (n i : ℕ) → at + n ≤ length d → n ≤ length s → i < n → get_or (paste d at s n) (at + i) 0 ≡ get_or s i 0
paste_inside d at s n i h l m = search (rules, places)

pub paste_below : (d : List ℕ) (at : ℕ) (s : List ℕ) (n i : ℕ) → at + n ≤ length d → n ≤ length s → i < at → get_or (paste d at s n) i 0 ≡ get_or d i 0
paste_below d at s n i h l m = search (rules, places)

pub paste_above : (d : List ℕ) (at : ℕ) (s : List ℕ) (n i : ℕ) → at + n ≤ length d → n ≤ length s → at + n ≤ i → get_or (paste d at s n) i 0 ≡ get_or d i 0
paste_above d at s n i h l m = search (rules, places)

pub other_row : (w : ℕ) (d : List ℕ) (k : ℕ) (s : List ℕ) (i t : ℕ) → k * w + w ≤ length d → w ≤ length s → t < w → (i ≡ k → ⊥) → cell w (paste d (k * w) s w) i t ≡ cell w d i t
other_row w d k s i t h l m ne = elim (cases_lt i k) [
  | inl q ↦ paste_below d (k * w) s w (i * w + t) h l (omega (arith, mul-le (suc i) w k w (omega arith) (omega arith), suc_row i))
  | inr q ↦ paste_above d (k * w) s w (i * w + t) h l (omega (arith, mul-le (suc k) w i w (omega arith) (omega arith), suc_row k))
]
  where
    suc_row : (i : ℕ) → suc i * w ≡ i * w + w
    suc_row i = suc-mul i w

-- the rows of b and, as row p − 1, their ⊕
abbrev pub Closes : ℕ → ℕ → List ℕ → List ℕ → Type 0
Closes p w b given = (r t : ℕ) → r < p → t < w → cell w given r t ≡ closed p (λ k. cell w b k t) r

-- ---- a row repeated
-- the first `done` bytes of s are whole copies of the row
pub record Filled (w n : ℕ) (row s : List ℕ) (done : ℕ) : Type 0 where
  pub long : length s ≡ n
  pub some : w ≤ done
  pub low : done ≤ n
  pub copies : done % w ≡ 0
  pub same : (k : ℕ) → k < done → get_or s k 0 ≡ get_or row (k % w) 0

module _ (p w n : ℕ) (S : Sizes p w n) (row : List ℕ) where
  none_left : 0 % w ≡ 0
  none_left = mod-eq_of_lt S.wide

  filled_none : (s : List ℕ) → length s ≡ n → ((k : ℕ) → k < w → get_or s k 0 ≡ get_or row k 0) → Filled w n row s w
  filled_none s l h = record {
    long = l;
    some = omega arith;
    low = S.short;
    copies = mod_self w;
    same = λ k m. h k m ∙ ap (λ i. get_or row i 0) (sym (mod-eq_of_lt m));
  }

  -- the row written at the start of a block
  pub filled_first : (d s : List ℕ) → length d ≡ n → length row ≡ w → s ≡ paste d (0 * w) row w → Filled w n row s w
  filled_first d s ld lr e = filled_none s (ap length e ∙ length-paste d (0 * w) row w (omega (arith, S.short)) (omega arith) ∙ ld) (λ k m.
      ap (λ (x : List ℕ). get_or x k 0) e ∙ ap (λ i. get_or (paste d (0 * w) row w) i 0) (omega arith) ∙ paste_inside d (0 * w) row w k (omega (arith, S.short)) (omega arith) m)

  -- the copies so far, or as many bytes of them as there is room for, are copied behind themselves
  pub filled_more : (s s' : List ℕ) (done more : ℕ) → done < n → more ≡ min done (n - done) → Filled w n row s done → length s' ≡ n →
      ((k : ℕ) → k < done → get_or s' k 0 ≡ get_or s k 0) → ((k : ℕ) → done ≤ k → k < done + more → get_or s' k 0 ≡ get_or s (k - done) 0) → Filled w n row s' (done + more)
  filled_more s s' done more l e F long old new = record {
    long = long;
    some = omega (arith, F.some);
    low = omega arith;
    copies = elim (cases_lt (n - done) done) [
      | inl q ↦ ap (λ x. x % w) (omega arith) ∙ ap (λ x. x % w) (sym S.whole) ∙ mul-mod_left (p - 1) w
      | inr q ↦ ap (λ x. x % w) (omega arith) ∙ add_cong w done 0 done (F.copies ∙ sym none_left) ∙ ap (λ x. x % w) (omega arith) ∙ F.copies
    ];
    same = λ k m. elim (cases_lt k done) [
      | inl q ↦ old k q ∙ F.same k q
      | inr q ↦ new k q m ∙ F.same (k - done) (omega arith) ∙ ap (λ i. get_or row i 0) (sym (back k q))
    ];
  }
    where
      back : (k : ℕ) → done ≤ k → k % w ≡ (k - done) % w
      back k q = ap (λ x. x % w) (omega arith) ∙ add_cong_r w (k - done) done 0 (F.copies ∙ sym none_left) ∙ ap (λ x. x % w) (omega arith)

  pub filled_all : (s : List ℕ) (done : ℕ) → n ≤ done → Filled w n row s done → s ≡ repeated p w row
  filled_all s done h F = is_rows p w S.wide s (λ _ t. get_or row t 0) (F.long ∙ sym S.whole) (λ r t l m.
      F.same (r * w + t) (omega (arith, S.within r l)) ∙ ap (λ i. get_or row i 0) (mod-mul-add r w t m))

-- the row that was cut from row r of a block has the width
pub length_row : (w r : ℕ) (b row : List ℕ) → r * w + w ≤ length b → row ≡ between (r * w) (r * w + w) b → length row ≡ w
length_row w r b row h e = ap length e ∙ length-between b (r * w) (r * w + w) h ∙ omega arith

-- ---- a row added to every row
module _ (p w n : ℕ) (S : Sizes p w n) where
  long_block : (f : ℕ → ℕ → ℕ) → length (rows p w f) ≡ n
  long_block f = length_rows p w S.wide f ∙ S.whole

  repeated_row : (r : ℕ) (b row : List ℕ) → row ≡ between (r * w) (r * w + w) b → repeated p w row ≡ everywhere p w r b
  repeated_row r b row e = rows_same p w S.wide (λ _ t. get_or row t 0) (λ _ t. cell w b r t) (λ _ t _ m.
      ap (λ (x : List ℕ). get_or x t 0) e ∙ get_or-between b (r * w) (r * w + w) t 0 (omega arith))

  pub row_everywhere : (r : ℕ) (b row whole into out : List ℕ) → length into ≡ n → row ≡ between (r * w) (r * w + w) b → whole ≡ repeated p w row → out ≡ onto into whole → out ≡ into ⊕ everywhere p w r b
  row_everywhere r b row whole into out li er ew eo =
      let all : whole ≡ everywhere p w r b = ew ∙ repeated_row r b row er in
      eo ∙ ap (onto into) all ∙ onto_same into (everywhere p w r b) (li ∙ sym (long_block (λ _ t. cell w b r t)))

  -- row p − 1 adds nothing
  pub no_row_everywhere : (r : ℕ) (b into : List ℕ) → length b ≡ n → length into ≡ n → p - 1 ≤ r → into ≡ into ⊕ everywhere p w r b
  no_row_everywhere r b into lb li h = is_add_rows p w n S into into (λ _ t. cell w b r t) li li (λ k t _ _.
      sym (ap (bit_xor (cell w into k t)) (get_or_past b (r * w + t) 0 (omega (arith, S.whole, S.top r h))) ∙ xor_zero_r (cell w into k t)))

-- ---- the rows of b, cut off its front one after another: what is left, as a list, after k rows
pub record Cut (w : ℕ) (b : List ℕ) (k : ℕ) (rest : List ℕ) : Type 0 where
  pub left : rest ≡ drop (k * w) b
  pub within : k * w ≤ length b

pub uncut : (w : ℕ) (b : List ℕ) → Cut w b 0 b
uncut w b = record { left = rw (zero-mul w); within = omega arith }

module _ (w : ℕ) (b : List ℕ) (k : ℕ) (rest row after : List ℕ) (C : Cut w b k rest) (parts : rest ≡ row ++ after) (wide : length row ≡ w) where
  front : drop (k * w) b ≡ row ++ after
  front = sym C.left ∙ parts

  pub cut_within : k * w + w ≤ length b
  cut_within = omega (arith, C.within, length-drop (k * w) b, length-append row after, ap length front)

  pub cut_row : row ≡ between (k * w) (k * w + w) b
  cut_row =
      sym (take-append_seam row after) ∙ ap (λ n. take n (row ++ after)) wide ∙ ap (take w) (sym front) ∙ sym (drop-take (k * w) w b)
      ∙ sym (between_is b (k * w) (k * w + w))

  pub cut_more : Cut w b (k + 1) after
  cut_more = record {
    left = sym (drop-append_seam row after) ∙ ap (λ n. drop n (row ++ after)) wide ∙ ap (drop w) (sym front) ∙ drop-drop w (k * w) b ∙ ap (λ n. drop n b) next;
    within = omega (arith, cut_within, next);
  }
    where
      next : k * w + w ≡ (k + 1) * w
      next = sym (rw add-one (suc-mul k w))

-- where less than a row is left, all p − 1 rows have been cut off
pub cut_all : (p w n : ℕ) → Sizes p w n → (b : List ℕ) → length b ≡ n → (k : ℕ) (rest : List ℕ) → Cut w b k rest → length rest < w → k ≡ p - 1
cut_all p w n S b lb k rest C few = elim (cases_order k (p - 1)) [
  | inl e ↦ e
  | inr (inl l) ↦ absurd (omega (arith, S.within k l, left))
  | inr (inr l) ↦ absurd (omega (arith, S.top k (omega arith), S.whole, S.wide, C.within, mul-le (suc (p - 1)) w k w (omega arith) (omega arith), suc-mul (p - 1) w))
]
  where
    left : length rest ≡ n - k * w
    left = ap length C.left ∙ length-drop (k * w) b ∙ ap (λ m. m - k * w) lb

-- ---- the ⊕ of the first rows
module _ (w : ℕ) (b : List ℕ) where
  pub length_sums : (n : ℕ) → length (row_sums w b n) ≡ w
  unfolding row_sums
  length_sums n = length-map-range_with_len (sum_at w b n) 0 w

  pub get_or_sums : (n t : ℕ) → t < w → get_or (row_sums w b n) t 0 ≡ sum_at w b n t
  unfolding row_sums
  get_or_sums n t h = get_or-map-range_with_len (sum_at w b n) 0 w t t 0 h (omega arith)

  sums_past : (n t : ℕ) → w ≤ t → get_or (row_sums w b n) t 0 ≡ 0
  sums_past n t h = get_or_past (row_sums w b n) t 0 (omega (arith, length_sums n))

  pub sums_none : (a : List ℕ) → a ≡ onto a (row_sums w b 0)
  sums_none a = is_onto a a (row_sums w b 0) refl (λ i _. sym (ap (bit_xor (get_or a i 0)) (none i) ∙ xor_zero_r (get_or a i 0)))
    where
      none : (i : ℕ) → get_or (row_sums w b 0) i 0 ≡ 0
      none i = elim (cases_lt i w) [
        | inl l ↦ get_or_sums 0 i l
        | inr l ↦ sums_past 0 i l
      ]

  pub sums_more : (r : ℕ) (a s row out : List ℕ) → r * w + w ≤ length b → s ≡ onto a (row_sums w b r) → row ≡ between (r * w) (r * w + w) b → out ≡ onto s row → out ≡ onto a (row_sums w b (r + 1))
  sums_more r a s row out h es er eo = is_onto out a (row_sums w b (r + 1)) (ap length eo ∙ length_onto s row ∙ ls) (λ i l.
      ap (λ (x : List ℕ). get_or x i 0) eo ∙ get_or_onto s row i (omega (arith, ls))
      ∙ ap (λ x. bit_xor x (get_or row i 0)) (ap (λ (x : List ℕ). get_or x i 0) es ∙ get_or_onto a (row_sums w b r) i l)
      ∙ xor_assoc (get_or a i 0) (get_or (row_sums w b r) i 0) (get_or row i 0)
      ∙ ap (bit_xor (get_or a i 0)) (one_more i))
    where
      ls : length s ≡ length a
      ls = ap length es ∙ length_onto a (row_sums w b r)

      lr : length row ≡ w
      lr = length_row w r b row h er

      one_more : (i : ℕ) → bit_xor (get_or (row_sums w b r) i 0) (get_or row i 0) ≡ get_or (row_sums w b (r + 1)) i 0
      one_more i = elim (cases_lt i w) [
        | inl l ↦ rw (add-one r) (
            ap (λ x. bit_xor x (get_or row i 0)) (get_or_sums r i l)
            ∙ ap (bit_xor (sum_at w b r i)) (ap (λ (x : List ℕ). get_or x i 0) er ∙ get_or-between b (r * w) (r * w + w) i 0 (omega arith))
            ∙ sym (get_or_sums (suc r) i l))
        | inr l ↦
            let x : get_or (row_sums w b r) i 0 ≡ 0 = sums_past r i l in
            let y : get_or row i 0 ≡ 0 = get_or_past row i 0 (omega (arith, lr)) in
            let z : get_or (row_sums w b (r + 1)) i 0 ≡ 0 = sums_past (r + 1) i l in
            rw (x, y, z)
      ]

-- a first row that starts as zeros and to which all rows were added is their ⊕
pub sum_row : (p w n : ℕ) → Sizes p w n → (b z sum row : List ℕ) → length z ≡ n → ((k : ℕ) → get_or z k 0 ≡ 0) → sum ≡ onto z (row_sums w b (p - 1)) → row ≡ between (0 * w) (0 * w + w) sum →
    (t : ℕ) → t < w → get_or row t 0 ≡ sum_at w b (p - 1) t
sum_row p w n S b z sum row lz hz es er t m =
    ap (λ (x : List ℕ). get_or x t 0) er ∙ get_or-between sum (0 * w) (0 * w + w) t 0 (omega arith) ∙ ap (λ k. get_or sum k 0) (omega arith)
    ∙ ap (λ (x : List ℕ). get_or x t 0) es ∙ get_or_onto z (row_sums w b (p - 1)) t (omega (arith, S.short))
    ∙ ap (λ x. bit_xor x (get_or (row_sums w b (p - 1)) t 0)) (hz t) ∙ rw (get_or_sums w b (p - 1) t m)

-- that ⊕ added to every row
pub sum_everywhere : (p w n : ℕ) → Sizes p w n → (b z sum row whole out : List ℕ) → length b ≡ n → length z ≡ n → ((k : ℕ) → get_or z k 0 ≡ 0) →
    sum ≡ onto z (row_sums w b (p - 1)) → row ≡ between (0 * w) (0 * w + w) sum → whole ≡ repeated p w row → out ≡ onto b whole → out ≡ unadjusted_block p w b
sum_everywhere p w n S b z sum row whole out lb lz hz es er ew eo =
    is_rows p w S.wide out (λ r t. unadjusted p (λ k. cell w b k t) r) (ap length eo ∙ length_onto b whole ∙ lb ∙ sym S.whole) (λ r t l m.
    ap (λ (x : List ℕ). get_or x (r * w + t) 0) eo ∙ get_or_onto b whole (r * w + t) (omega (arith, S.within r l))
    ∙ ap (bit_xor (cell w b r t)) (ap (λ (x : List ℕ). cell w x r t) ew ∙ cell_rows p w S.wide (λ _ t. get_or row t 0) r t l m ∙ sum_row p w n S b z sum row lz hz es er t m))

-- that ⊕ written behind the block as row p − 1
pub closes : (p w n m : ℕ) → Sizes p w n → (b z sum row zz first given : List ℕ) → length b ≡ n → length z ≡ n → ((k : ℕ) → get_or z k 0 ≡ 0) → length zz ≡ m → ((k : ℕ) → get_or zz k 0 ≡ 0) → n + w ≤ m →
    sum ≡ onto z (row_sums w b (p - 1)) → row ≡ between (0 * w) (0 * w + w) sum → first ≡ onto zz b → given ≡ paste first ((p - 1) * w) row w → Closes p w b given
closes p w n m S b z sum row zz first given lb lz hz lzz hzz fits es er ef eg r t hr ht = elim (cases_lt r (p - 1)) [
  | inl l ↦
      ap (λ (x : List ℕ). cell w x r t) eg ∙ other_row w first (p - 1) row r t within (omega (arith, lr)) ht (λ e. omega arith)
      ∙ ap (λ (x : List ℕ). cell w x r t) ef ∙ get_or_onto zz b (r * w + t) (omega (arith, S.within r l))
      ∙ rw (hzz (r * w + t)) (sym (closed_in p (λ k. cell w b k t) r l))
  | inr l ↦
      let e : r ≡ p - 1 = omega arith in
      rw e (ap (λ (x : List ℕ). cell w x (p - 1) t) eg ∙ paste_inside first ((p - 1) * w) row w t within (omega (arith, lr)) ht
      ∙ sum_row p w n S b z sum row lz hz es er t ht ∙ sym (closed_end p (λ k. cell w b k t)))
]
  where
    lr : length row ≡ w
    lr = length_row w 0 sum row (omega (arith, S.short, ap length es, length_onto z (row_sums w b (p - 1)))) er

    within : (p - 1) * w + w ≤ length first
    within = omega (arith, S.whole, ap length ef, length_onto zz b)
