-- What one column leaves of a running sum.
use Rattle.std.proofs.Common.{◌≡◌, ℕ, ◌<◌, Bool, true, false, cond, ◌⊎◌, List, length, sym, refl, ap, ◌∙◌, ⊎_elim}
use Rattle.code.specs.Blocks.{◌⊕◌, block_size}
use Rattle.code.specs.Codes.{Coding}
use Rattle.code.proofs.Blocks.{kept_by_zeros}
use Rattle.parity.specs.Stripe.{plain_part, mixed_part}
use Rattle.parity.proofs.Columns.{plain_Q, mixed_P}

-- a sum that is needed is left as it is by Q, or by P if it is the mixed one; a sum that is not needed by each column
pub plain_kept : (w : Bool) (k t : ℕ) (b s : List ℕ) → length s ≡ block_size → ((w ≡ true) × (k < t)) ⊎ (w ≡ false) → s ≡ cond w (s ⊕ plain_part k t b) s
plain_kept w k t b s h = ⊎_elim (λ q. rw q.0 (kept_by_zeros s h ∙ ap (λ x. s ⊕ x) (sym (plain_Q k t b q.1)))) (λ e. rw e refl)

pub mixed_kept : (w : Bool) (C : Coding) (k t : ℕ) (b s : List ℕ) → length s ≡ block_size → (w ≡ false) ⊎ ((w ≡ true) × (t ≡ k)) → s ≡ cond w (s ⊕ mixed_part C k t b) s
mixed_kept w C k t b s h = ⊎_elim (λ e. rw e refl) (λ q. rw q.0 (kept_by_zeros s h ∙ ap (λ x. s ⊕ x) (sym (mixed_P C k t b q.1))))
