-- Blocks that lie one after the other in a run of bytes: what the kinds at the bottom are made of.
use Rattle.std.specs.Prelude.{◌≡◌, ℕ, ◌+◌, ◌*◌, ◌/◌, min, true, false, cond, List, ◌++◌, length, take, drop, replicate, Some, None, nat_lt}
use Rattle.code.specs.Blocks.{Bytes, block_size}
use Rattle.member.specs.Faults.{Origin}
use Rattle.member.specs.Meaning.{Meaning, Good, most_blocks, checked}

-- how many whole blocks a run has, counting at most so many
abbrev pub whole_blocks : ℕ → List ℕ → ℕ
whole_blocks most xs = min most (length xs / block_size)

-- block b of a run
abbrev pub cut : List ℕ → ℕ → List ℕ
cut xs b = take block_size (drop (b * block_size) xs)

-- the run with v in the place of block b
abbrev pub pasted : List ℕ → ℕ → List ℕ → List ℕ
pasted xs b v = take (b * block_size) xs ++ (v ++ drop block_size (drop (b * block_size) xs))

abbrev pub bottom_origin : ℕ → Origin
bottom_origin b = record { height = 0; block = b }

-- The first n blocks of a run, as a member: always present, readable and writable.
abbrev pub run_meaning : ℕ → List ℕ → Meaning
run_meaning n xs = record {
  count = n;
  height = 0;
  gone = false;
  block = λ b. cond (nat_lt b n) (Some (cut xs b)) None;
  writable = λ _. true;
  gone_origin = bottom_origin;
  unreadable_origin = bottom_origin;
  unwritable_origin = bottom_origin;
}

-- the run after a write of v to block b of its first n: changed in that block alone, and only if the write is accepted
abbrev pub run_wrote : ℕ → List ℕ → ℕ → List ℕ → List ℕ
run_wrote n xs b v = checked (run_meaning n xs) b (length v) (pasted xs b v) xs

-- Of n blocks, block b is there and lies from a to e, and the buffer of a call on it has as many bytes as a block.
pub record Lies (n b m a e : ℕ) : Type 0 where
  pub good : Good n b m
  pub from : a ≡ b * block_size
  pub to : e ≡ a + block_size

-- A cell has 8 blocks.
abbrev pub cell_blocks : ℕ
cell_blocks = 8

abbrev pub cell_bytes : ℕ
cell_bytes = 4096

abbrev pub cell_sound : List ℕ → Type 0
cell_sound xs = Bytes cell_bytes xs

abbrev pub cell_meaning : List ℕ → Meaning
cell_meaning xs = run_meaning cell_blocks xs

abbrev pub cell_wrote : List ℕ → ℕ → List ℕ → List ℕ
cell_wrote xs b v = run_wrote cell_blocks xs b v

-- a new cell, and a fresh one, holds zeros
abbrev pub cell_zeros : List ℕ
cell_zeros = replicate cell_bytes 0

-- An image has the whole blocks of its buffer, at most 65,535.
abbrev pub image_count : List ℕ → ℕ
image_count xs = whole_blocks most_blocks xs

abbrev pub image_sound : List ℕ → Type 0
image_sound xs = Bytes (length xs) xs

abbrev pub image_meaning : List ℕ → Meaning
image_meaning xs = run_meaning (image_count xs) xs

abbrev pub image_wrote : List ℕ → ℕ → List ℕ → List ℕ
image_wrote xs b v = run_wrote (image_count xs) xs b v

-- no write changes the bytes beyond the last block
abbrev pub RestKept : Type 0
RestKept = (xs : List ℕ) (b : ℕ) (v : List ℕ) → drop (image_count xs * block_size) (image_wrote xs b v) ≡ drop (image_count xs * block_size) xs
