-- Shifts that are reduced one by one give what long division of the plain product leaves.
use Rattle.std.proofs.Common.{◌≡◌, ℕ, zero, suc, ◌+◌, ◌*◌, ◌/◌, ◌%◌, ◌^◌, ◌<◌, ◌≤◌, Bool, true, eqb, sym, refl, ap, ◌∙◌, subst, ap₂, mul_assoc, mul-one, arith, lit<}
use native.Mathlib.Nat.{pow-succ'}
use lib.Bits.{bit_xor, xor_lt}
use Rattle.std.proofs.lemmas.Nat.{pow_pos, mul-le}
use Rattle.std.proofs.lemmas.Bool.{eqb-true}
use Rattle.field.specs.Field.{shifted, chosen, product, times}
use Rattle.field.specs.Division.{plain, step, remainder}
use Rattle.field.proofs.Linear.{chosen_below}
use Rattle.field.proofs.Steps.{wider, step_low, step_lt, step_xor, step_double, step_shifted}
use Rattle.field.proofs.Tests.{all, all_at}

-- ---- the whole division
remainder_xor : (n c d : ℕ) → c < 2 ^ (8 + n) → d < 2 ^ (8 + n) → remainder n (bit_xor c d) ≡ bit_xor (remainder n c) (remainder n d)
unfolding remainder
remainder_xor zero c d hc hd = refl
remainder_xor (suc n) c d hc hd =
    let bc : c < 2 * 2 ^ (8 + n) = omega (arith, wider n) in
    let bd : d < 2 * 2 ^ (8 + n) = omega (arith, wider n) in
    ap (remainder n) (step_xor n c d bc bd) ∙ remainder_xor n (step n c) (step n d) (step_lt n c bc) (step_lt n d bd)

remainder_skip : (n c : ℕ) → c < 2 ^ (8 + n) → remainder (suc n) c ≡ remainder n c
unfolding remainder
remainder_skip n c h = ap (remainder n) (step_low n c h)

remainder_double : (n c : ℕ) → c < 2 ^ (8 + n) → remainder (suc n) (c * 2) ≡ shifted (remainder n c)
unfolding remainder
remainder_double zero c h = step_shifted c
remainder_double (suc n) c h =
    ap (remainder (suc n)) (step_double n c) ∙ remainder_double n (step n c) (step_lt n c (omega (arith, wider n)))

remainder_chosen : (d c : ℕ) → remainder 8 (chosen d c) ≡ chosen d (remainder 8 c)
unfolding remainder
remainder_chosen zero c = refl
remainder_chosen (suc d) c = refl

-- elements are not divided: 256 tests
whole : ℕ → Bool
whole a = eqb (remainder 8 a) a

all_whole : all 256 whole ≡ true
unfolding whole remainder
all_whole = refl

remainder_element : (a : ℕ) → a < 256 → remainder 8 a ≡ a
unfolding whole
remainder_element a h = eqb-true (remainder 8 a) a (all_at whole 256 all_whole a h)

-- ---- the plain product, of a polynomial with room for n shifts
times_pow : (x n : ℕ) → x ≤ x * 2 ^ n
times_pow x n = omega (arith, mul-le x 1 x (2 ^ n) (omega arith) (omega (arith, pow_pos n)), mul-one x)

next_room : (c n : ℕ) → c * 2 ^ suc n < 2 ^ 16 → c * 2 * 2 ^ n < 2 ^ 16
next_room c n h = subst (λ (x : ℕ). x < 2 ^ 16) (ap (λ m. c * m) (pow-succ' 2 n) ∙ sym (mul_assoc c 2 (2 ^ n))) h

plain_lt : (n c b : ℕ) → c * 2 ^ n < 2 ^ 16 → plain n c b < 2 ^ 16
unfolding plain
plain_lt zero c b h = lit< tt
plain_lt (suc n) c b h =
    xor_lt 16 (chosen (b % 2) c) (plain n (c * 2) (b / 2))
    (chosen_below (b % 2) c (2 ^ 16) (lit< tt) (omega (arith, times_pow c (suc n))))
    (plain_lt n (c * 2) (b / 2) (next_room c n h))

remainder_plain : (n c b : ℕ) → c * 2 ^ n < 2 ^ 16 → remainder 8 (plain n c b) ≡ product n (remainder 8 c) b
unfolding plain product
remainder_plain zero c b h = remainder_element 0 (lit< tt)
remainder_plain (suc n) c b h =
    let room = next_room c n h in
    let small : c < 2 ^ (8 + 7) = omega (arith, times_pow (c * 2) n, room) in
    remainder_xor 8 (chosen (b % 2) c) (plain n (c * 2) (b / 2)) (chosen_below (b % 2) c (2 ^ 16) (lit< tt) (omega arith)) (plain_lt n (c * 2) (b / 2) room)
    ∙ ap₂ bit_xor (remainder_chosen (b % 2) c)
    (remainder_plain n (c * 2) (b / 2) room
    ∙ ap (λ x. product n x (b / 2)) (remainder_double 7 c small ∙ ap shifted (sym (remainder_skip 7 c small))))

pub divided_product : (a b : ℕ) → a < 256 → times a b ≡ remainder 8 (plain 8 a b)
unfolding times
divided_product a b h = sym (remainder_plain 8 a b (omega arith) ∙ ap (λ x. product 8 x b) (remainder_element a h))
