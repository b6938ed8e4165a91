-- What a code means, and the laws that each code keeps.
use Rattle.std.specs.Prelude.{◌≡◌, ℕ, ◌<◌, List, ◌≢◌}
use Rattle.code.specs.Blocks.{Bytes, ◌⊕◌}

-- A code has a limit and, for each column j below it, a mixing that takes a block to a block.
-- P is the ⊕ of the data columns, Q the ⊕ of each data column's mixing.
-- `unmix j b` is the block whose mixing j is b; `unpair i j b` is the block whose mixings i and j add up to b.
pub record Coding : Type 0 where
  pub limit : ℕ
  pub mix : ℕ → List ℕ → List ℕ
  pub unmix : ℕ → List ℕ → List ℕ
  pub unpair : ℕ → ℕ → List ℕ → List ℕ

-- f is one-to-one and onto on n bytes: f and g take n bytes to n bytes, and each undoes the other
pub record Inverse (n : ℕ) (f g : List ℕ → List ℕ) : Type 0 where
  pub there : (b : List ℕ) → Bytes n b → Bytes n (f b)
  pub back : (b : List ℕ) → Bytes n b → Bytes n (g b)
  pub undone : (b : List ℕ) → Bytes n b → g (f b) ≡ b
  pub redone : (b : List ℕ) → Bytes n b → f (g b) ≡ b

-- (mixing i) ⊕ (mixing j) of a block
abbrev pub pair : Coding → ℕ → ℕ → List ℕ → List ℕ
pair C i j b = C.mix i b ⊕ C.mix j b

-- the laws, over blocks of n bytes
pub record Lawful (n : ℕ) (C : Coding) : Type 0 where
  -- mixing a ⊕ b gives the ⊕ of the two mixings
  pub linear : (j : ℕ) → j < C.limit → (a b : List ℕ) → Bytes n a → Bytes n b → C.mix j (a ⊕ b) ≡ C.mix j a ⊕ C.mix j b
  -- each mixing is one-to-one and onto
  pub single : (j : ℕ) → j < C.limit → Inverse n (C.mix j) (C.unmix j)
  -- and so is the ⊕ of two distinct mixings
  pub double : (i j : ℕ) → i < C.limit → j < C.limit → (i ≢ j) → Inverse n (pair C i j) (C.unpair i j)
