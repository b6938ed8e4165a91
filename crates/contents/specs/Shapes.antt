-- What of a volume never changes, and the contents that fit it.
use Rattle.std.specs.Prelude.{◌≡◌, ℕ, zero, suc, ◌+◌, ◌-◌, ◌*◌, ◌/◌, ◌%◌, ◌<◌, ◌≤◌, min, Bool, cond, ◌&&◌, List, Option, nat_le, nat_lt}
use Rattle.code.specs.Blocks.{Block, block_size}
use Rattle.code.specs.Codes.{Coding, Lawful}
use Rattle.parity.specs.Stripe.{Fits, missing}
use Rattle.parity.specs.Ways.{recovered}
use Rattle.layout.specs.Placing.{Placing}
use Rattle.member.specs.Meaning.{most_blocks}
use Rattle.contents.specs.declared.Loss.{Loss}
use Rattle.contents.specs.Columns.{Members, Frontiers, columns, loss_of}

-- A volume has a code, so many slots and stripes, and a layout: column c of stripe s lies on slot place s c, and slot i has column
-- back s i of it.
pub record Shape : Type 0 where
  pub code : Coding
  pub slots : ℕ
  pub stripes : ℕ
  pub place : ℕ → ℕ → ℕ
  pub back : ℕ → ℕ → ℕ

-- k data columns; P is column k and Q is column k + 1
abbrev pub data_columns : Shape → ℕ
data_columns V = V.slots - 2

-- logical blocks
abbrev pub blocks : Shape → ℕ
blocks V = V.stripes * data_columns V

-- logical block a is this column of this stripe
abbrev pub stripe_of : Shape → ℕ → ℕ
stripe_of V a = a / data_columns V

abbrev pub column_of : Shape → ℕ → ℕ
column_of V a = a % data_columns V

-- What holds of the shape of every volume. One of unfit parts has no slots and no stripes.
pub record Valid (V : Shape) : Type 0 where
  pub lawful : Lawful block_size V.code
  pub placed : (s : ℕ) → Placing V.slots (V.place s) (V.back s)
  pub reach : V.slots ≤ V.code.limit + 2
  pub most : V.slots ≤ 18
  pub few : V.stripes ≤ most_blocks
  pub wide : 0 < V.stripes → 4 ≤ V.slots

-- every member has a block for each stripe
abbrev pub Roomy : Shape → Members → Type 0
Roomy V M = (i : ℕ) → i < V.slots → V.stripes ≤ (M i).count

-- ---- stripe s of a volume with the members M and the frontiers F

abbrev pub columns_at : Shape → Members → Frontiers → ℕ → ℕ → Option (List ℕ)
columns_at V M F s = columns M F V.place s

-- how many of its columns are missing
abbrev pub missing_at : Shape → Members → Frontiers → ℕ → ℕ
missing_at V M F s = missing (columns_at V M F s) (data_columns V + 2)

-- three or more are
abbrev pub lossy : Shape → Members → Frontiers → ℕ → Bool
lossy V M F s = nat_lt 2 (missing_at V M F s)

-- what a refusal for loss carries
abbrev pub loss_at : Shape → Members → Frontiers → ℕ → Loss
loss_at V M F s = loss_of M F V.slots s

-- column t: its bytes if it is current, else what is recovered
abbrev pub recovered_at : Shape → Members → Frontiers → ℕ → ℕ → List ℕ
recovered_at V M F s t = recovered V.code (data_columns V) (columns_at V M F s) t

-- ---- contents

-- stripe s of a content
abbrev pub stripe : Shape → (ℕ → List ℕ) → ℕ → ℕ → List ℕ
stripe V c s i = c (s * data_columns V + i)

-- A content is S × k blocks. It fits if every current column holds what the code gives for it.
pub record FitsVolume (V : Shape) (M : Members) (F : Frontiers) (c : ℕ → List ℕ) : Type 0 where
  pub blocks : (a : ℕ) → a < blocks V → Block (c a)
  pub fits : (s : ℕ) → s < V.stripes → Fits V.code (data_columns V) (stripe V c s) (columns_at V M F s)

-- the contents that fit are all equal at block a
abbrev pub AgreeAt : Shape → Members → Frontiers → ℕ → Type 0
AgreeAt V M F a = (c d : ℕ → List ℕ) → FitsVolume V M F c → FitsVolume V M F d → c a ≡ d a

-- ---- the shape that parts make

-- the smallest count of the first n members; a member has at most 65,535 blocks
unfoldable pub smallest : Members → ℕ → ℕ
smallest M zero = most_blocks
smallest M (suc n) = min (smallest M n) (M n).count

-- Parts with n slots, a code of the limit w and the smallest count m fit if the slots are 4 to 18, the limit is not below n - 2 and
-- the smallest count is not 0.
abbrev pub fit : ℕ → ℕ → ℕ → Bool
fit n w m = nat_le 4 n && (nat_le n 18 && (nat_le (n - 2) w && nat_lt 0 m))

-- S is the smallest count in the bank. Unfit parts give a volume without slots or stripes. The layout tells, of n slots and stripe
-- s, the slot of a column and the column of a slot.
abbrev pub shape_of : Coding → (slot column : ℕ → ℕ → ℕ → ℕ) → ℕ → ℕ → Shape
shape_of C slot column n S = record { code = C; slots = n; stripes = S; place = slot n; back = column n }

abbrev pub formed : Coding → (slot column : ℕ → ℕ → ℕ → ℕ) → ℕ → Members → Shape
formed C slot column n M =
    cond (fit n C.limit (smallest M n)) (shape_of C slot column n (smallest M n)) (shape_of C slot column 0 0)
