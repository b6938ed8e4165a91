-- The shape that parts make.
use Rattle.std.proofs.Common.{◌≡◌, ℕ, zero, suc, ◌-◌, ◌<◌, ◌≤◌, min, true, false, leb, ◌⊎◌, sym, refl, subst, inl, inr, ⊎_elim, arith}
use Rattle.std.proofs.lemmas.Bool.{cases_Bool, cases_eq, cases_lt, cond-true, cond-false, and_parts, leb-true}
use Rattle.member.specs.Meaning.{most_blocks}
use Rattle.contents.specs.Columns.{Members}
use Rattle.contents.specs.Shapes.{Shape, Valid, Roomy, smallest, fit}
use Rattle.contents.specs.Theorems.{SmallestCount, Forms}

-- ---- the smallest count
pub smallest_few : (M : Members) (n : ℕ) → smallest M n ≤ most_blocks
unfolding smallest
smallest_few M zero = omega arith
smallest_few M (suc n) = let h = smallest_few M n in omega arith

pub smallest_low : (M : Members) (n i : ℕ) → i < n → smallest M n ≤ (M i).count
unfolding smallest
smallest_low M zero i l = absurd (omega arith)
smallest_low M (suc n) i l =
    ⊎_elim
    (λ (e : i ≡ n). subst (λ (x : ℕ). min (smallest M n) (M n).count ≤ (M x).count) (sym e) (omega arith))
    (λ (ne : i ≡ n → ⊥). let h = smallest_low M n i (omega arith) in omega arith)
    (cases_eq i n)

-- it is the bound, or some member's count
smallest_some : (M : Members) (n : ℕ) → (smallest M n ≡ most_blocks) ⊎ ((i : ℕ) × (i < n) × ((M i).count ≡ smallest M n))
unfolding smallest
smallest_some M zero = inl refl
smallest_some M (suc n) =
    ⊎_elim
    (λ (l : (M n).count < smallest M n). inr (n, omega arith, omega arith))
    (λ (l : smallest M n ≤ (M n).count).
    ⊎_elim
    (λ (e : smallest M n ≡ most_blocks). inl (omega arith))
    (λ (h : (i : ℕ) × (i < n) × ((M i).count ≡ smallest M n)). inr (h.0, (let a = h.1 in omega arith), (let b = h.2 in omega arith)))
    (smallest_some M n))
    (cases_lt (M n).count (smallest M n))

pub smallest_count : SmallestCount
smallest_count M n l few = (
  smallest_low M n,
  ⊎_elim
      (λ (e : smallest M n ≡ most_blocks).
      let a = smallest_low M n 0 l in
      let b = few 0 l in
      (0, l, omega arith))
      (λ (h : (i : ℕ) × (i < n) × ((M i).count ≡ smallest M n)). h)
      (smallest_some M n),
)

-- ---- the shape
pub forms : Forms
forms C L slot column pl n M =
    ⊎_elim
    (λ (e : fit n C.limit (smallest M n) ≡ true).
    let a = and_parts (leb 4 n) _ e in
    let b = and_parts (leb n 18) _ a.1 in
    let d = and_parts (leb (n - 2) C.limit) _ b.1 in
    let low : 4 ≤ n = leb-true 4 n a.0 in
    let high : n ≤ 18 = leb-true n 18 b.0 in
    let reach : n - 2 ≤ C.limit = leb-true (n - 2) C.limit d.0 in
    subst Good (sym (cond-true _ _ _ e))
    (record { lawful = L; placed = λ s. pl n s; reach = omega arith; most = high; few = smallest_few M n; wide = λ _. low }, λ i l. smallest_low M n i l))
    (λ (e : fit n C.limit (smallest M n) ≡ false).
    subst Good (sym (cond-false _ _ _ e))
    (record { lawful = L; placed = λ s. pl 0 s; reach = omega arith; most = omega arith; few = omega arith; wide = λ h. absurd (omega arith) }, λ i l. omega arith))
    (cases_Bool (fit n C.limit (smallest M n)))
  where
    Good : Shape → Type 0
    Good V = Valid V × Roomy V M
