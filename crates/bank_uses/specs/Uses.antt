-- Three writes to three slots of a bank.
use Rattle.std.specs.Prelude.{◌≡◌, ℕ, ◌<◌, List, ◌≢◌}
use Rattle.member.specs.Changes.{Written}
use Rattle.bank.specs.Slots.{Slots}

-- Each of three slots has its write, and every other slot keeps its member.
pub record Thrice (ms : Slots) (i j k b : ℕ) (x y z : List ℕ) (ns : Slots) : Type 0 where
  pub size : ns.size ≡ ms.size
  pub first : i < ms.size → Written (ms.member i) b x (ns.member i)
  pub second : j < ms.size → Written (ms.member j) b y (ns.member j)
  pub third : k < ms.size → Written (ms.member k) b z (ns.member k)
  pub others : (s : ℕ) → (s ≢ i) → (s ≢ j) → (s ≢ k) → ns.member s ≡ ms.member s
