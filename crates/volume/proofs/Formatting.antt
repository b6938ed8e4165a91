-- The size and the shape that the parts of a volume make.
use Rattle.std.proofs.Common.{◌≡◌, ℕ, ◌-◌, ◌<◌, ◌≤◌, Bool, true, false, cond, leb, Some, None, Option, IfSome, unwrap_or, sym, refl, ap, ◌∙◌, subst, ap₂, ⊎_elim, arith}
use Rattle.std.proofs.lemmas.Bool.{cases_Bool, cases_lt, and_parts, and_from, and_left, and_right, leb-true, ltb-true, le-leb, lt-ltb, le-ltb}
use Rattle.code.specs.Codes.{Coding}
use Rattle.member.specs.Meaning.{most_blocks}
use Rattle.contents.specs.Columns.{Members}
use Rattle.contents.specs.Shapes.{shape_of, formed, fit, smallest}
use Rattle.volume.specs.declared.size.Size.{Size}
use Rattle.volume.specs.Sizes.{Fitting, settled, size_of, shape_at}
use Rattle.volume.specs.Forming.{parts_size}

abbrev sized_by : Bool → ℕ → ℕ → Size
sized_by b n S = record { slots = cond b n 0; stripes = cond b S 0 }

-- what the parts make gives the shape that they form
pub parts_form : (C : Coding) (slot column : ℕ → ℕ → ℕ → ℕ) (n : ℕ) (M : Members) → shape_at C slot column (parts_size C.limit n M) ≡ formed C slot column n M
parts_form C slot column n M = by (fit n C.limit (smallest M n))
  where
    by : (b : Bool) → shape_at C slot column (sized_by b n (smallest M n)) ≡ cond b (shape_of C slot column n (smallest M n)) (shape_of C slot column 0 0)
    by true = refl
    by false = refl

-- a size that fits
pub fitting_of : (w n S : ℕ) → fit n w S ≡ true → S ≤ most_blocks → Fitting w (record { slots = n; stripes = S })
fitting_of w n S e few =
    let a = and_parts (leb 4 n) _ e in
    let b = and_parts (leb n 18) _ a.1 in
    let d = and_parts (leb (n - 2) w) _ b.1 in
    let wide = leb-true 4 n a.0 in
    let long = ltb-true 0 S d.1 in
    record { reach = leb-true (n - 2) w d.0; most = leb-true n 18 b.0; few = few; wide = λ _. wide; long = λ _. long }

-- no slots and no stripes fit every code
none_fits : (w : ℕ) → Fitting w (record { slots = 0; stripes = 0 })
none_fits w = record { reach = omega arith; most = omega arith; few = omega arith; wide = λ l. absurd (omega arith); long = λ l. absurd (omega arith) }

-- what the parts make fits, if anything
pub parts_fit : (w : ℕ) (o : Option Size) → IfSome o (Fitting w) → Fitting w (unwrap_or o (record { slots = 0; stripes = 0 }))
parts_fit w None f = none_fits w
parts_fit w (Some z) f = f

-- the size of a volume fits its code
pub size_fits : (w : ℕ) (z : Size) → Fitting w (size_of w z)
size_fits w z =
    ⊎_elim
    (λ (e : settled w z.slots z.stripes ≡ true).
    let a = and_parts (fit z.slots w z.stripes) _ e in
    subst (Fitting w) (sym (ap (λ (b : Bool). sized_by b z.slots z.stripes) e)) (fitting_of w z.slots z.stripes a.0 (leb-true z.stripes most_blocks a.1)))
    (λ (e : settled w z.slots z.stripes ≡ false).
    subst (Fitting w) (sym (ap (λ (b : Bool). sized_by b z.slots z.stripes) e)) (none_fits w))
    (cases_Bool (settled w z.slots z.stripes))

same_size : (a b : ℕ) (z : Size) → a ≡ z.slots → b ≡ z.stripes → record { slots = a; stripes = b } ≡ z
same_size a b z e f = ap₂ (λ (x y : ℕ). record { slots = x; stripes = y }) e f

-- and a size that fits is the size of a volume
pub fitted_stays : (w : ℕ) (z : Size) → Fitting w z → size_of w z ≡ z
fitted_stays w z f =
    ⊎_elim
    (λ (l : 0 < z.stripes).
    let fits = and_from _ _ (le-leb 4 z.slots (f.wide l)) (and_from _ _ (le-leb z.slots 18 f.most) (and_from _ _ (le-leb (z.slots - 2) w f.reach) (lt-ltb 0 z.stripes l))) in
    let e : settled w z.slots z.stripes ≡ true = and_from _ _ fits (le-leb z.stripes most_blocks f.few) in
    ap (λ (b : Bool). sized_by b z.slots z.stripes) e)
    (λ (l : z.stripes ≤ 0).
    let long = f.long in
    let n : 0 ≡ z.slots = ⊎_elim (λ (h : 0 < z.slots). absurd (let k = long h in omega arith)) (λ (h : z.slots ≤ 0). omega arith) (cases_lt 0 z.slots) in
    let e : settled w z.slots z.stripes ≡ false =
    and_left _ _ (and_right (leb 4 z.slots) _ (and_right (leb z.slots 18) _ (and_right (leb (z.slots - 2) w) _ (le-ltb 0 z.stripes l)))) in
    ap (λ (b : Bool). sized_by b z.slots z.stripes) e ∙ same_size 0 0 z n (omega arith))
    (cases_lt 0 z.stripes)
