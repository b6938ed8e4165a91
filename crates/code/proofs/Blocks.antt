-- The algebra of blocks: under ⊕ they are a commutative group in which each block is its own inverse.
use Rattle.std.proofs.Common.{◌≡◌, ℕ, zero, suc, ◌<◌, List, [], ◌∷◌, length, get_or, replicate, sym, refl, ap, ◌∙◌, ap₂, arith, lit<}
use lib.ListN.{length-replicate}
use lib.Bits.{bit_xor, xor_comm, xor_assoc, xor_self, xor_zero_l, xor_zero_r, xor_lt}
use Rattle.std.proofs.lemmas.List.{ext_get_or}
use Rattle.code.specs.Blocks.{Bytes, Block, block_size, ◌⊕◌, onto, zeros}

-- ---- ⊕ of numbers
xor_swap : (a b c : ℕ) → bit_xor a (bit_xor b c) ≡ bit_xor b (bit_xor a c)
xor_swap a b c = sym (xor_assoc a b c) ∙ ap (λ x. bit_xor x c) (xor_comm a b) ∙ xor_assoc b a c

-- the middle two of four exchanged
pub xor_four : (a b c d : ℕ) → bit_xor (bit_xor a b) (bit_xor c d) ≡ bit_xor (bit_xor a c) (bit_xor b d)
xor_four a b c d = simp (xor_assoc, xor_swap)

-- ---- ⊕ of blocks
pub add_comm : (a b : List ℕ) → a ⊕ b ≡ b ⊕ a
unfolding ◌⊕◌
add_comm [] [] = refl
add_comm [] (y ∷ ys) = refl
add_comm (x ∷ xs) [] = refl
add_comm (x ∷ xs) (y ∷ ys) = ap₂ ◌∷◌ (xor_comm x y) (add_comm xs ys)

pub add_assoc : (a b c : List ℕ) → (a ⊕ b) ⊕ c ≡ a ⊕ (b ⊕ c)
unfolding ◌⊕◌
add_assoc [] b c = refl
add_assoc (x ∷ xs) [] c = refl
add_assoc (x ∷ xs) (y ∷ ys) [] = refl
add_assoc (x ∷ xs) (y ∷ ys) (z ∷ zs) = ap₂ ◌∷◌ (xor_assoc x y z) (add_assoc xs ys zs)

pub add_left : (a b c : List ℕ) → a ⊕ (b ⊕ c) ≡ b ⊕ (a ⊕ c)
add_left a b c = sym (add_assoc a b c) ∙ ap (λ x. x ⊕ c) (add_comm a b) ∙ add_assoc b a c

-- ---- lengths and bytes
pub length_add : (n : ℕ) (a b : List ℕ) → length a ≡ n → length b ≡ n → length (a ⊕ b) ≡ n
unfolding ◌⊕◌
length_add n [] b h k = h
length_add n (x ∷ xs) [] h k = k
length_add zero (x ∷ xs) (y ∷ ys) h k = omega arith
length_add (suc n) (x ∷ xs) (y ∷ ys) h k = ap suc (length_add n xs ys (omega arith) (omega arith))

pub get_or_add : (a b : List ℕ) → length a ≡ length b → (i : ℕ) → get_or (a ⊕ b) i 0 ≡ bit_xor (get_or a i 0) (get_or b i 0)
unfolding ◌⊕◌
get_or_add [] [] h i = refl
get_or_add [] (y ∷ ys) h i = absurd (omega arith)
get_or_add (x ∷ xs) [] h i = absurd (omega arith)
get_or_add (x ∷ xs) (y ∷ ys) h zero = refl
get_or_add (x ∷ xs) (y ∷ ys) h (suc i) = get_or_add xs ys (omega arith) i

bytes_add : (a b : List ℕ) → ((i : ℕ) → get_or a i 0 < 256) → ((i : ℕ) → get_or b i 0 < 256) → (i : ℕ) → get_or (a ⊕ b) i 0 < 256
unfolding ◌⊕◌
bytes_add [] b h k i = h i
bytes_add (x ∷ xs) [] h k i = k i
bytes_add (x ∷ xs) (y ∷ ys) h k zero = xor_lt 8 x y (h 0) (k 0)
bytes_add (x ∷ xs) (y ∷ ys) h k (suc i) = bytes_add xs ys (λ j. h (suc j)) (λ j. k (suc j)) i

pub sum_bytes : (n : ℕ) (a b : List ℕ) → Bytes n a → Bytes n b → Bytes n (a ⊕ b)
sum_bytes n a b h k = record { long = length_add n a b h.long k.long; bytes = bytes_add a b h.bytes k.bytes }

-- `simp` takes a rule for side conditions only where it unfolds
abbrev pub block_add : (a b : List ℕ) → Block a → Block b → Block (a ⊕ b)
block_add a b h k = sum_bytes block_size a b h k

pub bytes_zeros : (n i : ℕ) → get_or (replicate n 0) i 0 < 256
bytes_zeros zero i = lit< tt
bytes_zeros (suc n) zero = lit< tt
bytes_zeros (suc n) (suc i) = bytes_zeros n i

pub block_zeros : Block zeros
unfolding zeros
block_zeros = record { long = length-replicate {A = ℕ} block_size 0; bytes = bytes_zeros block_size }

-- ---- zeros and cancelling
zeros_add_n : (n : ℕ) (b : List ℕ) → length b ≡ n → replicate n 0 ⊕ b ≡ b
unfolding ◌⊕◌
zeros_add_n zero [] h = refl
zeros_add_n zero (x ∷ xs) h = absurd (omega arith)
zeros_add_n (suc n) [] h = absurd (omega arith)
zeros_add_n (suc n) (x ∷ xs) h = ap₂ ◌∷◌ (xor_zero_l x) (zeros_add_n n xs (omega arith))

self_n : (n : ℕ) (b : List ℕ) → length b ≡ n → b ⊕ b ≡ replicate n 0
unfolding ◌⊕◌
self_n zero [] h = refl
self_n zero (x ∷ xs) h = absurd (omega arith)
self_n (suc n) [] h = absurd (omega arith)
self_n (suc n) (x ∷ xs) h = ap₂ ◌∷◌ (xor_self x) (self_n n xs (omega arith))

pub zeros_add : (b : List ℕ) → Block b → zeros ⊕ b ≡ b
unfolding zeros
zeros_add b h = zeros_add_n block_size b h.long

pub add_zeros : (b : List ℕ) → Block b → b ⊕ zeros ≡ b
add_zeros b h = add_comm b zeros ∙ zeros_add b h

pub add_self : (b : List ℕ) → Block b → b ⊕ b ≡ zeros
unfolding zeros
add_self b h = self_n block_size b h.long

pub self_left : (a b : List ℕ) → Block a → Block b → a ⊕ (a ⊕ b) ≡ b
self_left a b h k = sym (add_assoc a a b) ∙ ap (λ x. x ⊕ b) (add_self a h) ∙ zeros_add b k

pub zeros_zeros : zeros ⊕ zeros ≡ zeros
zeros_zeros = zeros_add zeros block_zeros

-- Sorts and cancels both sides of an equation of blocks; that the parts are blocks has to be in scope.
pub ruleset xor = (add_assoc, add_comm, add_left, add_self, self_left, zeros_add, add_zeros, zeros_zeros, block_add)

-- blocks whose ⊕ is zeros are equal
pub same : (a b : List ℕ) → Block a → Block b → a ⊕ b ≡ zeros → a ≡ b
same a b ha hb e = sym (add_zeros a ha) ∙ ap (λ x. a ⊕ x) (sym e) ∙ self_left a b ha hb

-- with the length alone: zeros added to a buffer, and a buffer of zeros
pub kept_by_zeros : (b : List ℕ) → length b ≡ block_size → b ≡ b ⊕ zeros
unfolding zeros
kept_by_zeros b h = sym (add_comm b zeros ∙ zeros_add_n block_size b h)

pub length_zeros : (b : List ℕ) → b ≡ zeros → length b ≡ block_size
unfolding zeros
length_zeros b e = ap length e ∙ length-replicate {A = ℕ} block_size 0

-- ---- a run added onto a longer or a shorter one
pub length_onto : (a b : List ℕ) → length (onto a b) ≡ length a
unfolding onto
length_onto [] b = refl
length_onto (x ∷ xs) [] = refl
length_onto (x ∷ xs) (y ∷ ys) = ap suc (length_onto xs ys)

pub get_or_onto : (a b : List ℕ) (i : ℕ) → i < length a → get_or (onto a b) i 0 ≡ bit_xor (get_or a i 0) (get_or b i 0)
unfolding onto
get_or_onto [] b i h = absurd (omega arith)
get_or_onto (x ∷ xs) [] i h = sym (xor_zero_r (get_or (x ∷ xs) i 0))
get_or_onto (x ∷ xs) (y ∷ ys) zero h = refl
get_or_onto (x ∷ xs) (y ∷ ys) (suc i) h = get_or_onto xs ys i (omega arith)

pub onto_same : (a b : List ℕ) → length a ≡ length b → onto a b ≡ a ⊕ b
onto_same a b h =
    ext_get_or 0 (onto a b) (a ⊕ b) (length_onto a b ∙ sym (length_add (length a) a b refl (sym h)))
    (λ i l. get_or_onto a b i (omega (arith, length_onto a b)) ∙ sym (get_or_add a b h i))

-- the run with b added, from its bytes
pub is_onto : (s a b : List ℕ) → length s ≡ length a → ((i : ℕ) → i < length a → get_or s i 0 ≡ bit_xor (get_or a i 0) (get_or b i 0)) → s ≡ onto a b
is_onto s a b hs h = ext_get_or 0 s (onto a b) (hs ∙ sym (length_onto a b)) (λ i l. h i (omega arith) ∙ sym (get_or_onto a b i (omega arith)))
