-- Contents and columns that are held in lists, and a stripe's two parities.
use Rattle.std.specs.Prelude.{◌≡◌, ℕ, ◌+◌, ◌<◌, ◌≤◌, Bool, false, cond, List, [], Some, None, Option, slice_index_or, option_copied}
use Rattle.std.proofs.Common.{Bor}
use Rattle.code.specs.Blocks.{Block, ◌⊕◌}
use Rattle.code.specs.Codes.{Coding}
use Rattle.parity.specs.Stripe.{Content, column}

-- the content whose data columns are listed
abbrev pub content : List (List ℕ) → ℕ → List ℕ
content blocks j = slice_index_or blocks j []

-- the columns of a list of blocks, of which those that are marked are present
abbrev pub stripe_of : List (List ℕ) → List Bool → ℕ → Option (List ℕ)
stripe_of blocks marks t = cond (slice_index_or marks t false) (Some (slice_index_or blocks t [])) None

-- the columns of a list in which a missing one is None
abbrev pub columns_of : List (Option (Bor (List ℕ))) → ℕ → Option (List ℕ)
columns_of columns t = option_copied (slice_index_or columns t None)

-- p and q are the parities of the content c
pub record Parities (C : Coding) (k : ℕ) (c : ℕ → List ℕ) (p q : List ℕ) : Type 0 where
  pub has_p : p ≡ column C k c k
  pub has_q : q ≡ column C k c (k + 1)

-- d is the difference that a change of data column i of the content c to v makes, and p and q are the parities of c
pub record Changes (C : Coding) (k : ℕ) (c : ℕ → List ℕ) (i : ℕ) (v d p q : List ℕ) : Type 0 where
  pub limit : k ≤ C.limit
  pub below : i < k
  pub blocks : Content k c
  pub block : Block v
  pub difference : d ≡ c i ⊕ v
  pub parities : Parities C k c p q
