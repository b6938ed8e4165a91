-- Blocks of 512 bytes and their exclusive or.
use Rattle.std.specs.Prelude.{◌≡◌, ℕ, ◌<◌, List, [], ◌∷◌, length, replicate, bit_xor, slice_index}

infixl 65 ◌⊕◌
-- how many bytes a block has
abbrev pub block_size : ℕ
block_size = 512

-- n bytes: n numbers, each below 256 (past the end `get_or` answers 0)
pub record Bytes (n : ℕ) (b : List ℕ) : Type 0 where
  pub long : length b ≡ n
  pub bytes : (i : ℕ) → slice_index b i < 256

abbrev pub Block : List ℕ → Type 0
Block b = Bytes block_size b

-- exclusive or, byte by byte, as far as both lists go
unfoldable pub ◌⊕◌ : List ℕ → List ℕ → List ℕ
◌⊕◌ [] ys = []
◌⊕◌ (x ∷ xs) [] = []
◌⊕◌ (x ∷ xs) (y ∷ ys) = bit_xor x y ∷ (xs ⊕ ys)

-- the second list's bytes added to the first bytes of the first, which keeps its length
unfoldable pub onto : List ℕ → List ℕ → List ℕ
onto [] ys = []
onto (x ∷ xs) [] = x ∷ xs
onto (x ∷ xs) (y ∷ ys) = bit_xor x y ∷ onto xs ys

unfoldable pub zeros : List ℕ
zeros = replicate block_size 0
