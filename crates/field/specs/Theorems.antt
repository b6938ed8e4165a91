-- What is proved of the field and of the code P+Q.
use Rattle.std.specs.Prelude.{◌≡◌, ℕ, ◌<◌}
use Rattle.code.specs.Blocks.{block_size}
use Rattle.code.specs.Codes.{Lawful}
use Rattle.field.specs.Division.{plain, remainder}
use Rattle.field.specs.Field.{times, power, log}
use Rattle.field.specs.Mixing.{pq}

-- the code P+Q keeps the laws of a code
abbrev pub PqIsLawful : Type 0
PqIsLawful = Lawful block_size pq

-- the elements that are not 0 are the powers of 2 with exponents below 255, each once
pub record Generated : Type 0 where
  pub above : (k : ℕ) → k < 255 → 0 < power k
  pub below : (k : ℕ) → power k < 256
  pub each : (b : ℕ) → 0 < b → b < 256 → (log b < 255) × (power (log b) ≡ b)
  pub once : (k : ℕ) → k < 255 → log (power k) ≡ k

-- every product is what long division by 0x11D leaves of the plain product, which has degree below 16
abbrev pub Divided : Type 0
Divided = (a b : ℕ) → a < 256 → b < 256 → times a b ≡ remainder 8 (plain 8 a b)
