-- What calls on the slots of a bank, one after the other, make of its state.
use Rattle.std.specs.Prelude.{ℕ, zero, suc}

-- f at 0, at 1, .. at n - 1, in that order
unfoldable pub in_turn : {S : Type 0} → (S → ℕ → S) → ℕ → S → S
in_turn f zero s = s
in_turn f (suc n) s = f (in_turn f n s) n
