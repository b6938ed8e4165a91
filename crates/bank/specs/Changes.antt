-- What a call may change in the meaning of a bank, and the laws that each kind of bank keeps.
use Rattle.std.specs.Prelude.{◌≡◌, ℕ, ◌<◌, ◌≤◌, List, length, ◌≢◌}
use Rattle.code.specs.Blocks.{Bytes}
use Rattle.member.specs.Meaning.{Meaning, Sound}
use Rattle.member.specs.Changes.{Written, Ticked, Renewed}
use Rattle.bank.specs.Slots.{Slots}

-- The member in slot i changes as R allows, every other member is kept, and the list keeps its length. A slot beyond the list
-- changes nothing.
pub record Changed (R : Meaning → Meaning → Type 0) (ms : Slots) (i : ℕ) (ns : Slots) : Type 0 where
  pub size : ns.size ≡ ms.size
  pub here : i < ms.size → R (ms.member i) (ns.member i)
  pub others : (k : ℕ) → (k ≢ i) → ns.member k ≡ ms.member k
  pub beyond : ms.size ≤ i → ns ≡ ms

-- a write of v to block b of slot i
abbrev pub SlotWritten : Slots → ℕ → ℕ → List ℕ → Slots → Type 0
SlotWritten ms i b v ns = Changed (λ m n. Written m b v n) ms i ns

abbrev pub SlotTicked : Slots → ℕ → Slots → Type 0
SlotTicked ms i ns = Changed Ticked ms i ns

abbrev pub SlotRenewed : Slots → ℕ → Slots → Type 0
SlotRenewed ms i ns = Changed Renewed ms i ns

-- The laws of a kind of bank with states S. The members of a sound state have sound meanings; each call makes of it a sound
-- state, with a meaning that the call may leave.
pub record Lawful {S : Type 0} (sound : S → Type 0) (meaning : S → Slots) (seen : S → ℕ → ℕ → ℕ → S) (wrote : S → ℕ → ℕ → List ℕ → S)
    (ticked renewed : S → ℕ → S) : Type 0 where
  pub means : (s : S) → sound s → (i : ℕ) → i < (meaning s).size → Sound ((meaning s).member i)
  pub sees : (s : S) (i b n : ℕ) → sound s → meaning (seen s i b n) ≡ meaning s
  pub writes : (s : S) (i b : ℕ) (v : List ℕ) → sound s → SlotWritten (meaning s) i b v (meaning (wrote s i b v))
  pub ticks : (s : S) (i : ℕ) → sound s → SlotTicked (meaning s) i (meaning (ticked s i))
  pub renews : (s : S) (i : ℕ) → sound s → SlotRenewed (meaning s) i (meaning (renewed s i))
  pub seen_sound : (s : S) (i b n : ℕ) → sound s → sound (seen s i b n)
  pub wrote_sound : (s : S) (i b : ℕ) (v : List ℕ) → sound s → Bytes (length v) v → sound (wrote s i b v)
  pub ticked_sound : (s : S) (i : ℕ) → sound s → sound (ticked s i)
  pub renewed_sound : (s : S) (i : ℕ) → sound s → sound (renewed s i)
