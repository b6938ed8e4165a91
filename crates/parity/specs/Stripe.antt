-- A stripe: data columns 0 .. k - 1, P at k and Q at k + 1. A content is its data blocks by column; a column holds bytes or is missing.
use Rattle.std.specs.Prelude.{◌≡◌, ℕ, zero, suc, ◌+◌, ◌<◌, cond, List, [], ◌∷◌, length, is_some, Some, None, Option, ◌==◌, nat_le, nat_lt}
use Rattle.code.specs.Blocks.{Block, ◌⊕◌, zeros}
use Rattle.code.specs.Codes.{Coding}

-- each data column of c is a block
abbrev pub Content : ℕ → (ℕ → List ℕ) → Type 0
Content k c = (i : ℕ) → i < k → Block (c i)

-- f 0 ⊕ .. ⊕ f (n - 1)
unfoldable pub sum : ℕ → (ℕ → List ℕ) → List ℕ
sum zero f = zeros
sum (suc n) f = sum n f ⊕ f n

-- what the code gives for column t: the data, P their ⊕, Q the ⊕ of their mixings
unfoldable pub column : Coding → ℕ → (ℕ → List ℕ) → ℕ → List ℕ
column C k c t = cond (nat_lt t k) (c t) (cond (t == k) (sum k c) (sum k (λ j. C.mix j (c j))))

-- a column that is present holds b
abbrev pub Holds : Option (List ℕ) → List ℕ → Type 0
Holds None b = Unit {0}
Holds (Some a) b = a ≡ b

-- every column that is present holds what the code gives for c
abbrev pub Fits : Coding → ℕ → (ℕ → List ℕ) → (ℕ → Option (List ℕ)) → Type 0
Fits C k c cols = (t : ℕ) → t < k + 2 → Holds (cols t) (column C k c t)

-- the missing columns below n, the highest first
unfoldable pub gaps : (ℕ → Option (List ℕ)) → ℕ → List ℕ
gaps cols zero = []
gaps cols (suc n) = cond (is_some (cols n)) (gaps cols n) (n ∷ gaps cols n)

-- how many columns below n are missing
abbrev pub missing : (ℕ → Option (List ℕ)) → ℕ → ℕ
missing cols n = length (gaps cols n)

-- the content c with v at data column i
abbrev pub put : (ℕ → List ℕ) → ℕ → List ℕ → ℕ → List ℕ
put c i v t = cond (t == i) v (c t)

-- what column t with the bytes b adds to the plain sum: a data column and P add themselves, Q adds nothing
abbrev pub plain_part : ℕ → ℕ → List ℕ → List ℕ
plain_part k t b = cond (nat_le t k) b zeros

-- what it adds to the mixed sum: a data column adds its mixing, P adds nothing, Q adds itself
abbrev pub mixed_part : Coding → ℕ → ℕ → List ℕ → List ℕ
mixed_part C k t b = cond (nat_lt t k) (C.mix t b) (cond (t == k) zeros b)

-- a missing column adds nothing
abbrev pub if_present : (List ℕ → List ℕ) → Option (List ℕ) → List ℕ
if_present f None = zeros
if_present f (Some b) = f b

-- the two sums over the present columns below n
abbrev pub plain_sum : ℕ → (ℕ → Option (List ℕ)) → ℕ → List ℕ
plain_sum k cols n = sum n (λ t. if_present (plain_part k t) (cols t))

abbrev pub mixed_sum : Coding → ℕ → (ℕ → Option (List ℕ)) → ℕ → List ℕ
mixed_sum C k cols n = sum n (λ t. if_present (mixed_part C k t) (cols t))
