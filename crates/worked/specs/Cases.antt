-- The worked cases of the rules, said of the definitions that the contracts of the codes and layouts cite.
use Rattle.std.specs.Prelude.{◌≡◌, ℕ, zero, suc, cond, ◌||◌, List, replicate, Some, None, Option, ◌==◌}
use Rattle.code.specs.Blocks.{block_size}
use Rattle.layout.specs.Placing.{rotated}
use Rattle.field.specs.Field.{times, power}
use Rattle.field.specs.Mixing.{pq}
use Rattle.parity.specs.Stripe.{column}
use Rattle.parity.specs.Ways.{recovered}
use Rattle.prime.specs.Rows.{rows}
use Rattle.prime.specs.Diagonals.{rdp, evenodd}

-- a block whose every byte is b
abbrev pub filled : ℕ → List ℕ
filled b = replicate block_size b

-- two data columns, of the bytes a and b
abbrev pub two : ℕ → ℕ → ℕ → List ℕ
two a b zero = filled a
two a b (suc t) = filled b

-- two data columns lost, P of the byte p and Q of the byte q present
abbrev pub parities : ℕ → ℕ → ℕ → Option (List ℕ)
parities p q zero = None
parities p q (suc zero) = None
parities p q (suc (suc zero)) = Some (filled p)
parities p q (suc (suc (suc t))) = Some (filled q)

-- The block of 16 rows of 32 bytes in which row r alone is filled, its byte t being f t; the rows q and r; or all rows.
abbrev pub row : ℕ → (ℕ → ℕ) → List ℕ
row r f = rows 17 32 (λ k t. cond (k == r) (f t) 0)

abbrev pub both_rows : ℕ → ℕ → (ℕ → ℕ) → List ℕ
both_rows q r f = rows 17 32 (λ k t. cond (k == q || k == r) (f t) 0)

abbrev pub all_rows : (ℕ → ℕ) → List ℕ
all_rows f = rows 17 32 (λ _ t. f t)

pub record WorkedCases : Type 0 where
  -- 2 times 128 is 29, and 2 to the power 12 is 205
  pub doubled : times 2 128 ≡ 29
  pub twelfth : power 12 ≡ 205
  -- P+Q: the data bytes 3 and 5 give P 6 and Q 9
  pub p_of_three_five : column pq 2 (two 3 5) 2 ≡ filled 6
  pub q_of_three_five : column pq 2 (two 3 5) 3 ≡ filled 9
  -- and both are recovered from 6 and 9
  pub three_recovered : recovered pq 2 (parities 6 9) 0 ≡ filled 3
  pub five_recovered : recovered pq 2 (parities 6 9) 1 ≡ filled 5
  -- RDP: with only row 1 filled, mixing 0 has the rows 0 and 1; with only row 15, mixing 1 has row 14
  pub rdp_row_1 : (f : ℕ → ℕ) → (rdp 17 32).mix 0 (row 1 f) ≡ both_rows 0 1 f
  pub rdp_row_15 : (f : ℕ → ℕ) → (rdp 17 32).mix 1 (row 15 f) ≡ row 14 f
  -- EVENODD: with only row 0 filled, mixing 0 has row 0, and mixing 16 has all rows
  pub evenodd_row_0 : (f : ℕ → ℕ) → (evenodd 17 32).mix 0 (row 0 f) ≡ row 0 f
  pub evenodd_all_rows : (f : ℕ → ℕ) → (evenodd 17 32).mix 16 (row 0 f) ≡ all_rows f
  -- the rotating layout: with 6 slots, column 4 of stripe 5 is on slot 3
  pub rotating_column_4 : rotated 6 5 4 ≡ 3
