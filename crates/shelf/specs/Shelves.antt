-- A shelf: one buffer cut into equal images.
use Rattle.std.specs.Prelude.{◌≡◌, ℕ, ◌+◌, ◌*◌, ◌/◌, ◌<◌, ◌≤◌, cond, List, ◌++◌, length, take, drop, nat_lt}
use Rattle.code.specs.Blocks.{Bytes, block_size}
use Rattle.member.specs.Runs.{image_meaning, image_wrote}
use Rattle.bank.specs.Slots.{Slots}

-- a shelf is made of its buffer and the number of images
pub record Shelved : Type 0 where
  pub bytes : List ℕ
  pub images : ℕ

abbrev pub shelved : List ℕ → ℕ → Shelved
shelved xs n = record { bytes = xs; images = n }

-- what the buffer holds are bytes
abbrev pub shelf_sound : Shelved → Type 0
shelf_sound s = Bytes (length s.bytes) s.bytes

-- the bytes of each of n images: of the whole blocks of the buffer the n-th part, rounded down
abbrev pub span : List ℕ → ℕ → ℕ
span xs n = ((length xs / block_size) / n) * block_size

-- image i: the images lie one after the other from the start of the buffer
abbrev pub part : List ℕ → ℕ → ℕ → List ℕ
part xs n i = take (span xs n) (drop (i * span xs n) xs)

-- the buffer with ys in the place of image i
abbrev pub with_part : List ℕ → ℕ → ℕ → List ℕ → List ℕ
with_part xs n i ys = take (i * span xs n) xs ++ (ys ++ drop (span xs n) (drop (i * span xs n) xs))

-- in slot i stands image i, of which at most 65,535 blocks count
abbrev pub shelf_meaning : Shelved → Slots
shelf_meaning s = record { size = s.images; member = λ i. image_meaning (part s.bytes s.images i) }

-- a write to slot i is a write to image i; the rest of the buffer stays
abbrev pub shelf_wrote : Shelved → ℕ → ℕ → List ℕ → Shelved
shelf_wrote s i b v =
    cond (nat_lt i s.images) (shelved (with_part s.bytes s.images i (image_wrote (part s.bytes s.images i) b v)) s.images) s

-- Image i of n is there, and lies in the buffer from a to e.
pub record Placed (xs : List ℕ) (n i a e : ℕ) : Type 0 where
  pub slot : i < n
  pub from : a ≡ i * span xs n
  pub to : e ≡ a + span xs n
  pub within : e ≤ length xs

-- It is, and its block b is there, of as many bytes as a call's buffer of m.
pub record Found (xs : List ℕ) (n i b m a e : ℕ) : Type 0 where
  pub slot : i < n
  pub from : a ≡ i * span xs n
  pub to : e ≡ a + span xs n
  pub within : e ≤ length xs
  pub low : b < (image_meaning (part xs n i)).count
  pub block : b * block_size + block_size ≤ span xs n
  pub sized : m ≡ block_size
