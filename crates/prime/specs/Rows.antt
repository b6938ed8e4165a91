-- A block as p − 1 rows of w bytes. Row p − 1 lies past the end, so that its bytes are zeros.
use Rattle.std.specs.Prelude.{ℕ, zero, suc, ◌+◌, ◌-◌, ◌*◌, ◌/◌, ◌%◌, List, map, bit_xor, slice_index}
use Rattle.std.specs.List.{range_with_len}

-- the ⊕ of f 0 .. f (n − 1)
abbrev pub xors : (ℕ → ℕ) → ℕ → ℕ
xors f zero = 0
xors f (suc n) = bit_xor (xors f n) (f n)

-- byte t of row r, where a row has w bytes; past the last row it is zero
abbrev pub cell : ℕ → List ℕ → ℕ → ℕ → ℕ
cell w b r t = slice_index b (r * w + t)

-- the block of p − 1 rows of w bytes in which byte t of row r is f r t
unfoldable pub rows : ℕ → ℕ → (ℕ → ℕ → ℕ) → List ℕ
rows p w f = map (λ n. f (n / w) (n % w)) (range_with_len 0 ((p - 1) * w))

-- the block whose row r is row (r + s) mod p of b
abbrev pub shifted : ℕ → ℕ → ℕ → List ℕ → List ℕ
shifted p w s b = rows p w (λ r t. cell w b ((r + s) % p) t)

-- the block whose every row is the first w bytes of `row`
abbrev pub repeated : ℕ → ℕ → List ℕ → List ℕ
repeated p w row = rows p w (λ _ t. slice_index row t)

-- the block whose every row is row r of b
abbrev pub everywhere : ℕ → ℕ → ℕ → List ℕ → List ℕ
everywhere p w r b = rows p w (λ _ t. cell w b r t)

-- byte t of the ⊕ of the first n rows of b
abbrev pub sum_at : ℕ → List ℕ → ℕ → ℕ → ℕ
sum_at w b n t = xors (λ r. cell w b r t) n

-- the ⊕ of the first n rows of b, a row of w bytes
unfoldable pub row_sums : ℕ → List ℕ → ℕ → List ℕ
row_sums w b n = map (sum_at w b n) (range_with_len 0 w)
