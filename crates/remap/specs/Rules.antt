-- What a remap layer keeps to, whatever is below.
use Rattle.std.specs.Prelude.{◌≡◌, ℕ, ◌+◌, ◌<◌, ◌≤◌, true, false, List, length}
use Rattle.code.specs.Blocks.{block_size}
use Rattle.member.specs.Meaning.{Meaning}
use Rattle.remap.specs.Places.{Table, place, used}
use Rattle.remap.specs.Remapped.{Layer, LayerSound, layer_meaning, layer_wrote}

-- Two blocks never stand at one place, and none stands past the used spares.
pub record Placed (t : Table) (first : ℕ) : Type 0 where
  pub apart : (b k : ℕ) → b < first → k < first → place t first k ≡ place t first b → k ≡ b
  pub within : (b : ℕ) → b < first → place t first b < first + used t

abbrev pub PlacesApart : Type 0
PlacesApart = (t : Table) (first : ℕ) → Placed t first

-- What is below is present, the place of block b takes no write, and spare i is the lowest never used that takes one.
pub record Lowest {S : Type 0} (mean : S → Meaning) (x : Layer S) (b i : ℕ) : Type 0 where
  pub present : (mean x.below).gone ≡ false
  pub shut : (mean x.below).writable (place x.table (layer_meaning mean x).count b) ≡ false
  pub unused : used x.table ≤ i
  pub there : i < x.table.spares
  pub passed : (j : ℕ) → used x.table ≤ j → j < i → (mean x.below).writable ((layer_meaning mean x).count + j) ≡ false
  pub takes : (mean x.below).writable ((layer_meaning mean x).count + i) ≡ true

-- Block b of x stands at spare i of y, and that is the last spare used.
pub record MovedTo {S : Type 0} (mean : S → Meaning) (x : Layer S) (b i : ℕ) (y : Layer S) : Type 0 where
  pub stands : place y.table (layer_meaning mean x).count b ≡ (layer_meaning mean x).count + i
  pub last : used y.table ≡ i + 1

-- A write moves a block that takes none at its place to the lowest spare that does.
abbrev pub MovesToLowest : {S : Type 0} → (S → Meaning) → (S → Type 0) → (S → ℕ → List ℕ → S) → Type 0
MovesToLowest {S} mean sound write =
    (x : Layer S) (b i : ℕ) (v : List ℕ) → LayerSound sound x → length v ≡ block_size → b < (layer_meaning mean x).count → Lowest mean x b i
    → MovedTo mean x b i (layer_wrote mean write x b v)
