-- What a remap layer means, and what each call makes of it.
use Rattle.std.specs.Prelude.{ℕ, zero, suc, ◌+◌, ◌-◌, ◌≤◌, min, Bool, false, cond, ◌||◌, List, [], ◌∷◌, length, None, nat_lt}
use Rattle.member.specs.Faults.{above, refused_with}
use Rattle.member.specs.Meaning.{Meaning, write_refusal, checked}
use Rattle.remap.specs.Places.{Table, place, used, left, moved_on, unmoved}

-- whether one of the n blocks from p on is writable
abbrev pub any_from : (ℕ → Bool) → ℕ → ℕ → Bool
any_from w p zero = false
any_from w p (suc n) = w p || any_from w (suc p) n

-- The meaning over m, whose block `first` is spare 0. A block is as what is below has it at its place; it is writable there or at
-- one of the spares left. A fault of cause 1 or 2 comes from its place below, one of cause 3 from this layer with the number asked.
abbrev pub remap_at : Table → ℕ → Meaning → Meaning
remap_at t first m = record {
  count = first;
  height = above m.height;
  gone = m.gone;
  block = λ b. cond (nat_lt b first) (m.block (place t first b)) None;
  writable = λ b. m.writable (place t first b) || any_from m.writable (first + used t) (left t);
  gone_origin = λ b. m.gone_origin (place t first b);
  unreadable_origin = λ b. m.unreadable_origin (place t first b);
  unwritable_origin = λ b. record { height = above m.height; block = b };
}

-- The spares are the last blocks of what is below, and the rest is the layer's own.
abbrev pub own_count : Table → Meaning → ℕ
own_count t m = m.count - t.spares

abbrev pub remapped : Table → Meaning → Meaning
remapped t m = remap_at t (own_count t m) m

-- a remap layer: what is below, and its table
pub record Layer (S : Type 0) : Type 0 where
  pub below : S
  pub table : Table

abbrev pub layer : {S : Type 0} → S → Table → Layer S
layer s t = record { below = s; table = t }

-- what is below is sound, and no more spares were used than there are
pub record LayerSound {S : Type 0} (sound : S → Type 0) (x : Layer S) : Type 0 where
  pub below : sound x.below
  pub within : used x.table ≤ x.table.spares

-- v with every number above 255 brought down to it, which leaves bytes as they are. What is below stays sound under a write of
-- bytes, and the laws are stated for every list of numbers: so a write that is tried again goes on from one of bytes.
abbrev pub clipped : List ℕ → List ℕ
clipped [] = []
clipped (x ∷ xs) = min 255 x ∷ clipped xs

module _ {S : Type 0} (mean : S → Meaning) where
  abbrev pub layer_meaning : Layer S → Meaning
  layer_meaning x = remapped x.table (mean x.below)

  -- a read goes below, to the block's place
  abbrev pub layer_seen : (S → ℕ → ℕ → S) → Layer S → ℕ → ℕ → Layer S
  layer_seen see x b n = checked (layer_meaning x) b n (layer (see x.below (place x.table (layer_meaning x).count b) n) x.table) x

  module _ (write : S → ℕ → List ℕ → S) where
    -- A write of v to block b at its place. While that is refused with 3, and at most n times, the block is moved to the lowest
    -- spare never used, and the write is tried there.
    abbrev pub tries : ℕ → ℕ → List ℕ → ℕ → S → Table → Layer S
    tries first b v zero s t = layer (write s (place t first b) v) t
    tries first b v (suc n) s t =
        cond (refused_with 3 (write_refusal (mean s) (place t first b) (length v)))
        (tries first b v n (write s (place t first b) (clipped v)) (moved_on t b)) (layer (write s (place t first b) v) t)

    abbrev pub layer_wrote : Layer S → ℕ → List ℕ → Layer S
    layer_wrote x b v = checked (layer_meaning x) b (length v) (tries (layer_meaning x).count b v (left x.table) x.below x.table) x

-- a tick goes below
abbrev pub layer_ticked : {S : Type 0} → (S → S) → Layer S → Layer S
layer_ticked tick x = layer (tick x.below) x.table

-- fresh forgets all moves and renews what is below
abbrev pub layer_renewed : {S : Type 0} → (S → S) → Layer S → Layer S
layer_renewed renew x = layer (renew x.below) (unmoved x.table.spares)
