-- Prime numbers.
use Rattle.std.specs.Prelude.{ℕ, ◌%◌, ◌<◌, ◌≢◌}

-- p is prime: it is above 1, and nothing from 2 to p − 1 divides it
abbrev pub Prime : ℕ → Type 0
Prime p = (1 < p) × ((d : ℕ) → 1 < d → d < p → p % d ≢ 0)
