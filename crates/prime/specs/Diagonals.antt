-- The two codes whose parity runs along diagonals, over an odd prime p and rows of w bytes, with what undoes their mixings.
-- A column of a block is here one byte of each row, as a function of the row; all rows are counted modulo p.
use Rattle.std.specs.Prelude.{◌≡◌, ℕ, zero, suc, ◌+◌, ◌-◌, ◌*◌, ◌%◌, ◌<◌, cond, List, ◌==◌, bit_xor, nat_lt}
use Rattle.code.specs.Codes.{Coding, Lawful}
use Rattle.prime.specs.Primes.{Prime}
use Rattle.prime.specs.Rows.{xors, cell, rows}

-- the row that a walk from row c in steps of d reaches after m steps
abbrev pub walk : ℕ → ℕ → ℕ → ℕ → ℕ
walk p c d m = (c + m * d) % p

-- the number of steps of a walk from row c to row k, where e is the inverse of the step
abbrev pub steps : ℕ → ℕ → ℕ → ℕ → ℕ
steps p c e k = ((k + c * (p - 1)) * e) % p

-- the largest e below n with d * e mod p = 1, else 0
abbrev pub inverse_below : ℕ → ℕ → ℕ → ℕ
inverse_below p d zero = 0
inverse_below p d (suc n) = cond ((d * n) % p == 1) n (inverse_below p d n)

-- the rows 0 to p − 2 of the column b, and at row p − 1 their ⊕, so that the ⊕ of all p rows is zero
abbrev pub closed : ℕ → (ℕ → ℕ) → ℕ → ℕ
closed p b r = cond (nat_lt r (p - 1)) (b r) (xors b (p - 1))

-- Row k of the column a, zero at row p − 1, for which a (r + u) ⊕ a (r + u + d) is row r of the closed column b:
-- the walk of steps d from row p − 1 to row k adds one row of b at each step. e is the inverse of d.
unfoldable pub solved : ℕ → ℕ → ℕ → ℕ → (ℕ → ℕ) → ℕ → ℕ
solved p u d e b k = xors (λ i. closed p b (walk p (p - 1 + u * (p - 1)) d i)) (steps p (p - 1) e k)

-- the step from shift u to shift v
abbrev pub gap : ℕ → ℕ → ℕ → ℕ
gap p u v = (v + u * (p - 1)) % p

-- the column whose shifts by u and by v add up to the column b
abbrev pub unpaired : ℕ → ℕ → ℕ → (ℕ → ℕ) → ℕ → ℕ
unpaired p u v b = solved p u (gap p u v) (inverse_below p (gap p u v) p) b

-- the block whose shifts by u and by v add up to b
abbrev pub unpaired_block : ℕ → ℕ → ℕ → ℕ → List ℕ → List ℕ
unpaired_block p w u v b = rows p w (λ k t. unpaired p u v (λ r. cell w b r t) k)

-- the column b with the ⊕ of its rows added to each row
abbrev pub unadjusted : ℕ → (ℕ → ℕ) → ℕ → ℕ
unadjusted p b r = bit_xor (b r) (xors b (p - 1))

-- the block b with the ⊕ of its rows added to each row
abbrev pub unadjusted_block : ℕ → ℕ → List ℕ → List ℕ
unadjusted_block p w b = rows p w (λ r t. unadjusted p (λ k. cell w b k t) r)

-- Row-diagonal parity: row r of mixing j is row (r − j) mod p ⊕ row (r + 1) mod p.
-- Its diagonals run over the data columns and over P: the second term is what the block adds to Q through P.
-- Leaving that term out is the known mistake: a mixing j above 0 then drops row p − 1 − j of the block, and cannot be undone.
abbrev pub rdp : ℕ → ℕ → Coding
rdp p w = record {
  limit = p - 1;
  mix = λ j b. rows p w (λ r t. bit_xor (cell w b ((r + (p - j)) % p) t) (cell w b ((r + 1) % p) t));
  unmix = λ j b. unpaired_block p w (p - j) 1 b;
  unpair = λ i j b. unpaired_block p w (p - i) (p - j) b;
}

-- EVENODD: row r of mixing j is row (r − j) mod p ⊕ row p − 1 − j.
-- The second term is the adjuster: what the block has on the diagonal that no row of Q stands for is added to every row.
-- Of a pair, the ⊕ of all rows is the adjuster, since the number of rows is even; it is taken off before the pair is solved.
abbrev pub evenodd : ℕ → ℕ → Coding
evenodd p w = record {
  limit = p;
  mix = λ j b. rows p w (λ r t. bit_xor (cell w b ((r + (p - j)) % p) t) (cell w b (p - 1 - j) t));
  unmix = λ j b. rows p w (λ k t. bit_xor (cell w b ((k + j) % p) t) (cell w b ((p - 1 + j) % p) t));
  unpair = λ i j b. rows p w (λ k t. unpaired p (p - i) (p - j) (unadjusted p (λ r. cell w b r t)) k);
}

-- Over every odd prime and every width of a row, both codes keep the laws.
abbrev pub DiagonalCodesAreLawful : Type 0
DiagonalCodesAreLawful =
    (p w : ℕ) → Prime p → p % 2 ≡ 1 → 0 < w → Lawful ((p - 1) * w) (rdp p w) × Lawful ((p - 1) * w) (evenodd p w)
