-- What a call may change in the meaning of a member, and the laws that each kind of member keeps.
use Rattle.std.specs.Prelude.{◌≡◌, ℕ, ◌<◌, true, false, List, length, Some, None, ◌≢◌}
use Rattle.code.specs.Blocks.{Bytes}
use Rattle.member.specs.Faults.{Refusal}
use Rattle.member.specs.Meaning.{Meaning, Sound, write_refusal}

-- count and height, which never change
pub record Level (m n : Meaning) : Type 0 where
  pub count : n.count ≡ m.count
  pub height : n.height ≡ m.height

-- block k is as it was, but for its writability
pub record Kept (m n : Meaning) (k : ℕ) : Type 0 where
  pub block : n.block k ≡ m.block k
  pub gone_origin : n.gone_origin k ≡ m.gone_origin k
  pub unreadable_origin : n.unreadable_origin k ≡ m.unreadable_origin k
  pub unwritable_origin : n.unwritable_origin k ≡ m.unwritable_origin k

-- An accepted write of v to block b leaves v there. Every other block is kept, and any block may lose its writability.
-- Left free: where later faults of block b itself come from, since a layer may have moved it.
pub record Taken (m : Meaning) (b : ℕ) (v : List ℕ) (n : Meaning) : Type 0 where
  pub level : Level m n
  pub gone : n.gone ≡ m.gone
  pub here : n.block b ≡ Some v
  pub others : (k : ℕ) → k < m.count → (k ≢ b) → Kept m n k
  pub costs : (k : ℕ) → k < m.count → n.writable k ≡ true → m.writable k ≡ true

-- A write to block b that is refused with 3 leaves b unreadable, and nothing else is changed. The same write meets the same fault.
-- Left free: where later faults of cause 1 and 2 of block b itself come from, since a layer may have moved it.
pub record Spoiled (m : Meaning) (b : ℕ) (n : Meaning) : Type 0 where
  pub level : Level m n
  pub gone : n.gone ≡ m.gone
  pub here : n.block b ≡ None
  pub again : n.unwritable_origin b ≡ m.unwritable_origin b
  pub others : (k : ℕ) → k < m.count → (k ≢ b) → Kept m n k
  pub writable : (k : ℕ) → k < m.count → n.writable k ≡ m.writable k

-- A write of v to block b, by what it is refused with.
pub record Written (m : Meaning) (b : ℕ) (v : List ℕ) (n : Meaning) : Type 0 where
  pub accepted : write_refusal m b (length v) ≡ None → Taken m b v n
  pub unwritable : (f : Refusal) → write_refusal m b (length v) ≡ Some f → f.cause ≡ 3 → Spoiled m b n
  -- any other refusal changes nothing
  pub refused : (f : Refusal) → write_refusal m b (length v) ≡ Some f → (f.cause ≢ 3) → n ≡ m

-- At a tick each block keeps its bytes or turns unreadable, and what is unreadable stays so: what can be read after it was there
-- before. A member may go, and gone stays gone. Left free: writability, and where faults come from.
pub record Ticked (m n : Meaning) : Type 0 where
  pub level : Level m n
  pub gone : m.gone ≡ true → n.gone ≡ true
  pub blocks : (k : ℕ) (v : List ℕ) → k < m.count → n.block k ≡ Some v → m.block k ≡ Some v

-- A member made fresh is present. Left free: its blocks, and where faults come from.
pub record Renewed (m n : Meaning) : Type 0 where
  pub level : Level m n
  pub present : n.gone ≡ false

-- The laws of a kind of member with states S. A sound state has a sound meaning; each call makes of it a sound state, with a
-- meaning that the call may leave.
pub record Lawful {S : Type 0} (sound : S → Type 0) (meaning : S → Meaning) (seen : S → ℕ → ℕ → S) (wrote : S → ℕ → List ℕ → S)
    (ticked renewed : S → S) : Type 0 where
  pub means : (s : S) → sound s → Sound (meaning s)
  pub sees : (s : S) (b n : ℕ) → sound s → meaning (seen s b n) ≡ meaning s
  pub writes : (s : S) (b : ℕ) (v : List ℕ) → sound s → Written (meaning s) b v (meaning (wrote s b v))
  pub ticks : (s : S) → sound s → Ticked (meaning s) (meaning (ticked s))
  pub renews : (s : S) → sound s → Renewed (meaning s) (meaning (renewed s))
  pub seen_sound : (s : S) (b n : ℕ) → sound s → sound (seen s b n)
  pub wrote_sound : (s : S) (b : ℕ) (v : List ℕ) → sound s → Bytes (length v) v → sound (wrote s b v)
  pub ticked_sound : (s : S) → sound s → sound (ticked s)
  pub renewed_sound : (s : S) → sound s → sound (renewed s)
