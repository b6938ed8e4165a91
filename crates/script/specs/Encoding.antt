-- A script as it is meant, and the bytes that it is written as.
use Rattle.std.specs.Prelude.{◌≡◌, ℕ, ◌/◌, ◌%◌, ◌<◌, ◌≤◌, true, List, [], ◌∷◌, ◌++◌, length, slice_index}
use Rattle.std.specs.List.{slice_get}
use Rattle.script.specs.declared.parts.Entry.{Entry}
use Rattle.script.specs.declared.parts.Operation.{Operation}
use Rattle.script.specs.Format.{is_script, code_at, entry_at, operation_at}

-- the number of a code, entries and operations
pub record Meant : Type 0 where
  pub code : ℕ
  pub entries : List Entry
  pub operations : List Operation

-- no more of them than there may be
pub record Allowed (m : Meant) : Type 0 where
  pub entries : length m.entries ≤ 16
  pub operations : length m.operations ≤ 1000
  pub code : m.code ≤ 2

-- a 16-bit number, its low byte first
abbrev pub two_bytes : ℕ → List ℕ
two_bytes n = n % 256 ∷ (n / 256 ∷ [])

-- the kinds of all entries, and then round, slot and block of each
abbrev pub kinds : List Entry → List ℕ
kinds [] = []
kinds (e ∷ es) = e.kind ∷ kinds es

abbrev pub triples : List Entry → List ℕ
triples [] = []
triples (e ∷ es) = two_bytes e.round ++ (two_bytes e.slot ++ (two_bytes e.block ++ triples es))

-- the numbers of all operations, and then x and y of each
abbrev pub acts : List Operation → List ℕ
acts [] = []
acts (o ∷ os) = o.number ∷ acts os

abbrev pub pairs : List Operation → List ℕ
pairs [] = []
pairs (o ∷ os) = two_bytes o.x ++ (two_bytes o.y ++ pairs os)

-- how many entries and operations there are, the code, the entries, the operations
abbrev pub encoded : Meant → List ℕ
encoded m =
    two_bytes (length m.entries)
    ++ (two_bytes (length m.operations)
    ++ (two_bytes m.code ++ (kinds m.entries ++ (triples m.entries ++ (acts m.operations ++ pairs m.operations)))))

-- that the bytes are a script which says what is meant
pub record Says (xs : List ℕ) (m : Meant) : Type 0 where
  pub good : is_script xs ≡ true
  pub code : code_at xs ≡ m.code
  pub entries : (i : ℕ) → entry_at xs i ≡ slice_get m.entries i
  pub operations : (i : ℕ) → operation_at xs i ≡ slice_get m.operations i

-- whatever is meant, its bytes say it
abbrev pub ReadsBack : Type 0
ReadsBack = (m : Meant) → Allowed m → Says (encoded m) m

-- whatever bytes are a script, they are what is written of something that may be meant
abbrev pub WritesBack : Type 0
WritesBack = (xs : List ℕ) → ((i : ℕ) → slice_index xs i < 256) → is_script xs ≡ true → (m : Meant) × Allowed m × (encoded m ≡ xs)
