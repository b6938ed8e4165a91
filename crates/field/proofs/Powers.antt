-- The powers of 2: shifts of 1, of which 255 come back to where they began.
use Rattle.std.proofs.Common.{◌≡◌, ℕ, zero, suc, ◌+◌, ◌-◌, ◌*◌, ◌/◌, ◌%◌, ◌<◌, length, get_or, sym, refl, ap, ◌∙◌, inl, inr, suc-add, zero-add, arith, lit<}
use lib.Bits.{bit_xor, xor_self, xor_zero_r}
use Rattle.std.proofs.lemmas.Nat.{div-add-mod'}
use Rattle.std.proofs.lemmas.Bool.{cases_lt, cases_order}
use Rattle.field.specs.Field.{shifted, product, times, power}
use Rattle.field.specs.Terms.{shifts}
use Rattle.field.proofs.Linear.{product_lt, product_xor, xor_product, product_shifted}
use Rattle.field.proofs.Tests.{absent, times_two, times_one, none_back, last_back}

-- ---- products of elements
pub times_lt : (a b : ℕ) → a < 256 → times a b < 256
unfolding times
times_lt a b h = product_lt 8 a b h

pub times_xor : (a x y : ℕ) → times a (bit_xor x y) ≡ bit_xor (times a x) (times a y)
unfolding times
times_xor a x y = product_xor 8 a x y

pub xor_times : (a b x : ℕ) → a < 256 → b < 256 → times (bit_xor a b) x ≡ bit_xor (times a x) (times b x)
unfolding times
xor_times a b x ha hb = xor_product 8 a b x ha hb

pub times_zero : (a : ℕ) → times a 0 ≡ 0
times_zero a = times_xor a 0 0 ∙ xor_self (times a 0)

pub zero_times : (b : ℕ) → times 0 b ≡ 0
zero_times b = xor_times 0 0 b (lit< tt) (lit< tt) ∙ xor_self (times 0 b)

times_unit : (a : ℕ) → times a 1 ≡ a
unfolding times product
times_unit a = xor_zero_r a

times_shifted : (a x : ℕ) → a < 256 → times (shifted a) x ≡ shifted (times a x)
unfolding times
times_shifted a x h = product_shifted 8 a x h

-- ---- n shifts
unfoldable pub shift_by : ℕ → ℕ → ℕ
shift_by zero a = a
shift_by (suc n) a = shifted (shift_by n a)

shift_add : (m n a : ℕ) → shift_by (m + n) a ≡ shift_by m (shift_by n a)
unfolding shift_by
shift_add zero n a = ap (λ k. shift_by k a) (zero-add n)
shift_add (suc m) n a = ap (λ k. shift_by k a) (suc-add m n) ∙ ap shifted (shift_add m n a)

shift_swap : (m n a : ℕ) → shift_by m (shift_by n a) ≡ shift_by n (shift_by m a)
shift_swap m n a = sym (shift_add m n a) ∙ ap (λ k. shift_by k a) (omega arith) ∙ shift_add n m a

pub length_shifts : (n a : ℕ) → length (shifts n a) ≡ n
unfolding shifts
length_shifts zero a = refl
length_shifts (suc n) a = ap suc (length_shifts n (shifted a))

pub get_or_shifts : (n a k : ℕ) → k < n → get_or (shifts n a) k 0 ≡ shift_by k a
unfolding shifts shift_by
get_or_shifts zero a k h = absurd (omega arith)
get_or_shifts (suc n) a zero h = refl
get_or_shifts (suc n) a (suc k) h = get_or_shifts n (shifted a) k (omega arith) ∙ shift_swap k 1 a

-- ---- powers
pub power_lt : (j : ℕ) → power j < 256
unfolding power
power_lt zero = lit< tt
power_lt (suc j) = times_lt 2 (power j) (lit< tt)

pub times_power : (j b : ℕ) → b < 256 → times (power j) b ≡ shift_by j b
unfolding power shift_by
times_power zero b h = times_one b h
times_power (suc j) b h =
    ap (λ p. times p b) (times_two (power j) (power_lt j)) ∙ times_shifted (power j) b (power_lt j) ∙ ap shifted (times_power j b h)

pub power_shift : (j : ℕ) → power j ≡ shift_by j 1
power_shift j = sym (times_unit (power j)) ∙ times_power j 1 (lit< tt)

pub shift_power : (m j : ℕ) → shift_by m (power j) ≡ power (m + j)
shift_power m j = ap (shift_by m) (power_shift j) ∙ sym (shift_add m j 1) ∙ sym (power_shift (m + j))

pub times_powers : (i j : ℕ) → times (power i) (power j) ≡ power (i + j)
times_powers i j = times_power i (power j) (power_lt j) ∙ shift_power i j

power_255 : power 255 ≡ 1
power_255 = power_shift 255 ∙ sym (get_or_shifts 256 1 255 (lit< tt)) ∙ last_back

shift_255 : (b : ℕ) → b < 256 → shift_by 255 b ≡ b
shift_255 b h = sym (times_power 255 b h) ∙ ap (λ p. times p b) power_255 ∙ times_one b h

-- exponents count modulo 255
rounds : (q r : ℕ) → power (q * 255 + r) ≡ power r
rounds zero r = ap power (omega arith)
rounds (suc q) r =
    let more : 255 + (q * 255 + r) ≡ suc q * 255 + r = omega arith in
    ap power (sym more) ∙ sym (shift_power 255 (q * 255 + r)) ∙ shift_255 (power (q * 255 + r)) (power_lt (q * 255 + r)) ∙ rounds q r

pub power_reduced : (n : ℕ) → power (n % 255) ≡ power n
power_reduced n = sym (rounds (n / 255) (n % 255)) ∙ ap power (div-add-mod' n 255)

pub powers_undo : (j k b : ℕ) → j + k ≡ 255 → b < 256 → times (power j) (times (power k) b) ≡ b
powers_undo j k b e h =
    times_power j (times (power k) b) (times_lt (power k) b (power_lt k)) ∙ ap (shift_by j) (times_power k b h)
    ∙ sym (shift_add j k b) ∙ ap (λ n. shift_by n b) e ∙ shift_255 b h

-- ---- distinct exponents below 255 have distinct powers
no_unit : (d : ℕ) → 0 < d → d < 255 → power d ≡ 1 → ⊥
unfolding shift_by
no_unit d p h e =
    let one_more : (d - 1) + 1 ≡ d = omega arith in
    absent (shifts 254 2) 1 none_back (d - 1) (omega (arith, length_shifts 254 2))
    (get_or_shifts 254 2 (d - 1) (omega arith) ∙ sym (shift_add (d - 1) 1 1) ∙ ap (λ n. shift_by n 1) one_more ∙ sym (power_shift d) ∙ e)

apart : (i j : ℕ) → i < j → j < 255 → power i ≡ power j → ⊥
apart i j l h e =
    no_unit (j - i) (omega arith) (omega arith)
    (sym (shift_255 (power (j - i)) (power_lt (j - i))) ∙ shift_power 255 (j - i) ∙ ap power (omega arith)
    ∙ sym (shift_power (255 - i) j) ∙ ap (shift_by (255 - i)) (sym e) ∙ shift_power (255 - i) i ∙ ap power (omega arith) ∙ power_255)

pub power_once : (i j : ℕ) → i < 255 → j < 255 → power i ≡ power j → i ≡ j
power_once i j hi hj e = elim (cases_order i j) [
  | inl q ↦ q
  | inr (inl l) ↦ absurd (apart i j l hj e)
  | inr (inr l) ↦ absurd (apart j i l hi (sym e))
]

-- no power is 0
pub power_pos : (j : ℕ) → j < 255 → 0 < power j
power_pos j h = elim (cases_lt 0 (power j)) [
  | inl p ↦ p
  | inr p ↦
      let zero-power : power j ≡ 0 = omega arith in
      let z : ◌≡◌ {A = ℕ} 1 0 =
      sym power_255 ∙ ap power (omega arith) ∙ sym (times_powers (255 - j) j) ∙ ap (times (power (255 - j))) zero-power ∙ times_zero (power (255 - j)) in
      absurd (omega arith)
]
