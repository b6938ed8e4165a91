-- Blocks of rows: their bytes, and what holds of each column lifted to the block.
use Rattle.std.proofs.Common.{◌≡◌, ℕ, ◌+◌, ◌-◌, ◌*◌, ◌/◌, ◌%◌, ◌<◌, List, length, get_or, sym, ap, ◌∙◌, inl, inr, mod-lt, div-add-mod', arith}
use lib.Bits.{bit_xor}
use Rattle.std.proofs.lemmas.List.FromFn.{length-map-range_with_len, get_or-map-range_with_len}
use Rattle.std.proofs.lemmas.List.{get_or_past, ext_get_or}
use Rattle.std.proofs.lemmas.Nat.{div-mul-add, mod-mul-add, mul-add-lt, div_below}
use Rattle.std.proofs.lemmas.Bool.{cases_eq, cases_lt}
use Rattle.code.specs.Blocks.{Bytes, ◌⊕◌}
use Rattle.code.specs.Codes.{Inverse}
use Rattle.code.proofs.Blocks.{length_add, get_or_add}
use Rattle.prime.specs.Rows.{cell, rows}
use Rattle.prime.proofs.Columns.{Column}

-- the map F at each column of a block
abbrev pub columnwise : ℕ → ℕ → ((ℕ → ℕ) → ℕ → ℕ) → List ℕ → List ℕ
columnwise p w F b = rows p w (λ r t. F (λ k. cell w b k t) r)

module _ (p w : ℕ) (wide : 0 < w) where
  pub length_rows : (f : ℕ → ℕ → ℕ) → length (rows p w f) ≡ (p - 1) * w
  unfolding rows
  length_rows f = length-map-range_with_len (λ n. f (n / w) (n % w)) 0 ((p - 1) * w)

  pub get_or_rows : (f : ℕ → ℕ → ℕ) (n : ℕ) → n < (p - 1) * w → get_or (rows p w f) n 0 ≡ f (n / w) (n % w)
  unfolding rows
  get_or_rows f n h = get_or-map-range_with_len (λ n. f (n / w) (n % w)) 0 ((p - 1) * w) n n 0 h (omega arith)

  pub cell_rows : (f : ℕ → ℕ → ℕ) (r t : ℕ) → r < p - 1 → t < w → cell w (rows p w f) r t ≡ f r t
  cell_rows f r t h l =
      get_or_rows f (r * w + t) (omega (arith, mul-add-lt r w t (p - 1) h l)) ∙ rw (div-mul-add r w t l, mod-mul-add r w t l)

  -- row p − 1 is zeros
  pub cell_top : (b : List ℕ) (t : ℕ) → length b ≡ (p - 1) * w → cell w b (p - 1) t ≡ 0
  cell_top b t h = get_or_past b ((p - 1) * w + t) 0 (omega arith)

  -- blocks with the same cells are equal
  pub same_cells : (a b : List ℕ) → length a ≡ (p - 1) * w → length b ≡ (p - 1) * w → ((r t : ℕ) → r < p - 1 → t < w → cell w a r t ≡ cell w b r t) → a ≡ b
  same_cells a b la lb h = ext_get_or 0 a b (la ∙ sym lb) (λ n l.
      let e : get_or a (n / w * w + n % w) 0 ≡ get_or b (n / w * w + n % w) 0 = h (n / w) (n % w) (div_below n w (p - 1) wide (omega arith)) (mod-lt n wide) in
      rw (div-add-mod' n w) at e)

  -- a block is `rows` of what its cells are
  pub is_rows : (a : List ℕ) (f : ℕ → ℕ → ℕ) → length a ≡ (p - 1) * w → ((r t : ℕ) → r < p - 1 → t < w → cell w a r t ≡ f r t) → a ≡ rows p w f
  is_rows a f la h = same_cells a (rows p w f) la (length_rows f) (λ r t l m. h r t l m ∙ sym (cell_rows f r t l m))

  pub rows_same : (f g : ℕ → ℕ → ℕ) → ((r t : ℕ) → r < p - 1 → t < w → f r t ≡ g r t) → rows p w f ≡ rows p w g
  rows_same f g h = is_rows (rows p w f) g (length_rows f) (λ r t l m. cell_rows f r t l m ∙ h r t l m)

  pub rows_add : (f g : ℕ → ℕ → ℕ) → rows p w f ⊕ rows p w g ≡ rows p w (λ r t. bit_xor (f r t) (g r t))
  rows_add f g =
      is_rows (rows p w f ⊕ rows p w g) (λ r t. bit_xor (f r t) (g r t)) (length_add ((p - 1) * w) (rows p w f) (rows p w g) (length_rows f) (length_rows g)) (λ r t l m.
      get_or_add (rows p w f) (rows p w g) (length_rows f ∙ sym (length_rows g)) (r * w + t) ∙ rw (cell_rows f r t l m, cell_rows g r t l m))

  bytes_rows : (f : ℕ → ℕ → ℕ) → ((r t : ℕ) → f r t < 256) → Bytes ((p - 1) * w) (rows p w f)
  bytes_rows f h = record {
    long = length_rows f;
    bytes = λ k. elim (cases_lt k ((p - 1) * w)) [
      | inl l ↦ rw (get_or_rows f k l) (h (k / w) (k % w))
      | inr l ↦ rw (get_or_past (rows p w f) k 0 (omega (arith, length_rows f))) (omega arith)
    ];
  }

  module _ (F G : (ℕ → ℕ) → ℕ → ℕ) (col : Column p F G) where
    pub columnwise_linear : (a b : List ℕ) → length a ≡ length b → columnwise p w F (a ⊕ b) ≡ columnwise p w F a ⊕ columnwise p w F b
    columnwise_linear a b h =
        rows_same (λ r t. F (λ k. cell w (a ⊕ b) k t) r) (λ r t. bit_xor (F (λ k. cell w a k t) r) (F (λ k. cell w b k t) r)) (λ r t l m.
        col.looks (λ k. cell w (a ⊕ b) k t) (λ k. bit_xor (cell w a k t) (cell w b k t)) (λ k _. get_or_add a b h (k * w + t)) r l
        ∙ col.linear (λ k. cell w a k t) (λ k. cell w b k t) r)
        ∙ sym (rows_add (λ r t. F (λ k. cell w a k t) r) (λ r t. F (λ k. cell w b k t) r))

    redo : (b : List ℕ) → Bytes ((p - 1) * w) b → columnwise p w F (columnwise p w G b) ≡ b
    redo b blk =
        same_cells (columnwise p w F g) b (length_rows (λ r t. F (λ k. cell w g k t) r)) blk.long (λ r t l m.
        cell_rows (λ r t. F (λ k. cell w g k t) r) r t l m
        ∙ col.looks (λ k. cell w g k t) (G (λ k. cell w b k t)) (λ k n. inner t m k n) r l
        ∙ col.onto (λ k. cell w b k t) (cell_top b t blk.long) r l)
      where
        g : List ℕ
        g = columnwise p w G b

        inner : (t : ℕ) → t < w → (k : ℕ) → k < p → cell w (columnwise p w G b) k t ≡ G (λ r. cell w b r t) k
        inner t m k n = elim (cases_eq k (p - 1)) [
          | inl q ↦ rw q (cell_top g t (length_rows (λ r t. G (λ k. cell w b k t) r)) ∙ sym (col.top (λ r. cell w b r t)))
          | inr q ↦ cell_rows (λ r t. G (λ k. cell w b k t) r) k t (omega arith) m
        ]

    pub columnwise_inverse : Inverse ((p - 1) * w) (columnwise p w F) (columnwise p w G)
    columnwise_inverse = record {
      there = go;
      back = λ b blk. bytes_rows (λ r t. G (λ k. cell w b k t) r) (λ r t. col.small_back 8 (λ k. cell w b k t) (λ k. blk.bytes (k * w + t)) r);
      undone = λ a blk.
          let a' = columnwise p w G (columnwise p w F a) in
          same_cells a' a (length_rows (λ r t. G (λ k. cell w (columnwise p w F a) k t) r)) blk.long (λ k t l m.
          col.one (λ k. cell w a' k t) (λ k. cell w a k t) (cell_top a' t (length_rows (λ r t. G (λ k. cell w (columnwise p w F a) k t) r))) (cell_top a t blk.long) (λ r n.
          sym (cell_rows (λ r t. F (λ k. cell w a' k t) r) r t n m)
          ∙ ap (λ x. cell w x r t) (redo (columnwise p w F a) (go a blk))
          ∙ cell_rows (λ r t. F (λ k. cell w a k t) r) r t n m) k (omega arith));
      redone = redo;
    }
      where
        go : (a : List ℕ) → Bytes ((p - 1) * w) a → Bytes ((p - 1) * w) (columnwise p w F a)
        go a blk = bytes_rows (λ r t. F (λ k. cell w a k t) r) (λ r t. col.small 8 (λ k. cell w a k t) (λ k. blk.bytes (k * w + t)) r)
