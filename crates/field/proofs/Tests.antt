-- What is computed over the whole field: a test at each of its elements.
use Rattle.std.proofs.Common.{◌≡◌, ℕ, zero, suc, ◌*◌, ◌/◌, ◌%◌, ◌<◌, Bool, true, false, ◌&&◌, ◌||◌, eqb, List, [], ◌∷◌, length, get_or, refl, inl, inr, arith}
use lib.Bits.{bit_xor}
use Rattle.std.proofs.lemmas.Bool.{cases_eq, and_parts, or_cases, or_parts, eqb-true, eqb-false}
use Rattle.field.specs.Field.{shifted, product, times}
use Rattle.field.specs.Terms.{shifts}

-- a test at each number below n
abbrev pub all : ℕ → (ℕ → Bool) → Bool
all zero f = true
all (suc n) f = f n && all n f

pub all_at : (f : ℕ → Bool) (n : ℕ) → all n f ≡ true → (k : ℕ) → k < n → f k ≡ true
all_at f zero t k h = absurd (omega arith)
all_at f (suc n) t k h = elim (cases_eq k n) [
  | inl e ↦ rw e (and_parts (f n) (all n f) t).0
  | inr d ↦ all_at f n (and_parts (f n) (all n f) t).1 k (omega arith)
]

-- whether b stands in the list
abbrev pub holds : List ℕ → ℕ → Bool
holds [] b = false
holds (x ∷ xs) b = eqb x b || holds xs b

-- where it stands
pub place : (xs : List ℕ) (b : ℕ) → holds xs b ≡ true → (k : ℕ) × (k < length xs) × (get_or xs k 0 ≡ b)
place [] b t = absurd cc
place (x ∷ xs) b t = elim (or_cases (eqb x b) (holds xs b) t) [
  | inl e ↦ (0, omega arith, eqb-true x b e)
  | inr e ↦ let p = place xs b e in (suc p.0, omega (arith, p.1), p.2)
]

pub absent : (xs : List ℕ) (b : ℕ) → holds xs b ≡ false → (k : ℕ) → k < length xs → get_or xs k 0 ≡ b → ⊥
absent [] b t k h e = absurd (omega arith)
absent (x ∷ xs) b t zero h e = eqb-false x b (or_parts (eqb x b) (holds xs b) t).0 e
absent (x ∷ xs) b t (suc k) h e = absent xs b (or_parts (eqb x b) (holds xs b) t).1 k (omega arith) e

-- ---- the tests
doubles : ℕ → Bool
doubles a = eqb (times 2 a) (shifted a) && eqb (times 1 a) a

all_double : all 256 doubles ≡ true
unfolding doubles product times
all_double = refl

pub times_two : (a : ℕ) → a < 256 → times 2 a ≡ shifted a
unfolding doubles
times_two a h = eqb-true (times 2 a) (shifted a) (and_parts (eqb (times 2 a) (shifted a)) (eqb (times 1 a) a) (all_at doubles 256 all_double a h)).0

pub times_one : (a : ℕ) → a < 256 → times 1 a ≡ a
unfolding doubles
times_one a h = eqb-true (times 1 a) a (and_parts (eqb (times 2 a) (shifted a)) (eqb (times 1 a) a) (all_at doubles 256 all_double a h)).1

-- the shift of a byte, of 8 bits
bytewise : ℕ → Bool
bytewise a = eqb (bit_xor (a * 2 % 256) (a / 128 * 29)) (shifted a)

all_bytewise : all 256 bytewise ≡ true
unfolding bytewise
all_bytewise = refl

pub shifted_byte : (a : ℕ) → a < 256 → bit_xor (a * 2 % 256) (a / 128 * 29) ≡ shifted a
unfolding bytewise
shifted_byte a h = eqb-true (bit_xor (a * 2 % 256) (a / 128 * 29)) (shifted a) (all_at bytewise 256 all_bytewise a h)

reached : List ℕ → ℕ → Bool
reached xs b = holds xs (suc b)

-- the 255 shifts of 1 reach each element but 0
all_reached : all 255 (reached (shifts 255 1)) ≡ true
unfolding reached shifts
all_reached = refl

-- none but the last of them comes back to 1
pub none_back : holds (shifts 254 2) 1 ≡ false
unfolding shifts
none_back = refl

pub last_back : get_or (shifts 256 1) 255 0 ≡ 1
unfolding shifts
last_back = refl

pub reach : (b : ℕ) → b < 255 → (k : ℕ) × (k < length (shifts 255 1)) × (get_or (shifts 255 1) k 0 ≡ suc b)
unfolding reached
reach b h = place (shifts 255 1) (suc b) (all_at (reached (shifts 255 1)) 255 all_reached b h)
