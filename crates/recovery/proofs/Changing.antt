-- The parities after a change of one data column.
use Rattle.std.proofs.Common.{◌≡◌, ℕ, List, sym, ap, ◌∙◌, ap₂}
use Rattle.code.specs.Blocks.{◌⊕◌, block_size}
use Rattle.code.specs.Codes.{Coding, Lawful}
use Rattle.parity.specs.Stripe.{put}
use Rattle.parity.proofs.Changes.{deltas}
use Rattle.recovery.specs.Columns.{Parities, Changes}

pub changed : (C : Coding) → Lawful block_size C → (k : ℕ) (c : ℕ → List ℕ) (i : ℕ) (v d p q p' q' : List ℕ) → Changes C k c i v d p q
    → p' ≡ p ⊕ d → q' ≡ q ⊕ C.mix i d → Parities C k (put c i v) p' q'
changed C L k c i v d p q p' q' h ep eq =
    let e = deltas C L k h.limit c h.blocks i h.below v h.block in
    record {
      has_p = ep ∙ ap₂ ◌⊕◌ h.parities.has_p h.difference ∙ sym e.0;
      has_q = eq ∙ ap₂ ◌⊕◌ h.parities.has_q (ap (C.mix i) h.difference) ∙ sym e.1;
    }
