-- What a report is asked on, and what it says.
use Rattle.std.specs.Prelude.{◌≡◌, ℕ, zero, suc, ◌+◌, ◌*◌, ◌<◌, Bool, true, cond, ◌&&◌, List, ◌++◌, length, take, drop, codes, ◌==◌, nat_le, nat_lt}
pub use Rattle.notation.specs.Numbers.{number_at}
use Rattle.code.specs.Blocks.{block_size}
use Rattle.code.specs.Codes.{Coding}
use Rattle.field.specs.Mixing.{pq}
use Rattle.prime.specs.Diagonals.{rdp, evenodd}
use Rattle.parity.specs.Stripe.{Content, column}
use Rattle.recovery.specs.Columns.{content}
use Rattle.report.specs.Text.{parity_line, lines_below, pairs, count_line}

-- the code's number, and the number of data columns
abbrev pub code_number : List ℕ → ℕ
code_number task = number_at task 0

abbrev pub width : List ℕ → ℕ
width task = number_at task 2

-- data block i, after the two numbers
abbrev pub data_block : List ℕ → ℕ → List ℕ
data_block task i = take block_size (drop (4 + block_size * i) task)

-- a stripe: 1 to 16 data columns, no more than the code's limit w, and just as many blocks
abbrev pub is_stripe : ℕ → List ℕ → Bool
is_stripe w task = length task == 4 + block_size * width task && (nat_lt 0 (width task) && (nat_le (width task) 16 && nat_le (width task) w))

-- blocks are the data blocks of a task that is a stripe under the limit w
pub record DataOf (w : ℕ) (task : List ℕ) (blocks : List (List ℕ)) : Type 0 where
  pub good : is_stripe w task ≡ true
  pub count : length blocks ≡ width task
  pub given : (i : ℕ) → i < width task → content blocks i ≡ data_block task i
  pub sized : Content (width task) (content blocks)

abbrev pub bad_stripe : List ℕ
bad_stripe = codes "bad stripe\n"

-- the parities of a content of k data columns, a line for each pair of its columns, and the number of pairs
unfoldable pub stripe_report : Coding → ℕ → (ℕ → List ℕ) → List ℕ
stripe_report C k c =
    parity_line (codes "P") (column C k c k)
    ++ (parity_line (codes "Q") (column C k c (k + 1)) ++ (lines_below (k + 2) (k + 2) ++ count_line (pairs (k + 2))))

-- the report by a code
abbrev pub report_by : Coding → List ℕ → List ℕ
report_by C task = cond (is_stripe C.limit task) (stripe_report C (width task) (data_block task)) bad_stripe

-- the codes by number: 0 P+Q, 1 RDP, 2 EVENODD
abbrev pub by_number : ℕ → List ℕ → List ℕ
by_number zero task = report_by pq task
by_number (suc zero) task = report_by (rdp 17 32) task
by_number (suc (suc zero)) task = report_by (evenodd 17 32) task
by_number (suc (suc (suc n))) task = bad_stripe

abbrev pub report_of : List ℕ → List ℕ
report_of task = by_number (code_number task) task
