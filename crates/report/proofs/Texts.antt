-- Text that grows at its end.
use Rattle.std.proofs.Common.{◌≡◌, ℕ, zero, suc, ◌+◌, ◌-◌, ◌*◌, ◌/◌, ◌%◌, ◌<◌, ◌≤◌, true, List, [], ◌∷◌, ◌++◌, length, get_or, take, IfOk, string_bytes, codes, Result, String, sym, refl, ap, ◌∙◌, subst, ap₂, append_assoc, append-nil, suc-mul, mul-suc, add-one, arith}
use Rattle.std.proofs.lemmas.List.{take_more}
use Rattle.std.specs.declared.alloc.Global.{Global}
use Rattle.code.specs.Codes.{Coding}
use Rattle.parity.specs.Stripe.{column}
use Rattle.report.specs.Text.{hex, hex_digit, parity_line, pair_line, lines_with, lines_below, pairs, count_line}
use Rattle.report.specs.Task.{stripe_report}

-- a text grown by x, and then by y
pub grown : (a x y s t : List ℕ) → s ≡ a ++ x → t ≡ s ++ y → t ≡ a ++ (x ++ y)
grown a x y s t p q = q ∙ ap (λ z. z ++ y) p ∙ append_assoc a x y

-- a text grown by four parts in turn
pub four_parts : (a w x y z s t u v : List ℕ) → s ≡ a ++ w → t ≡ s ++ x → u ≡ t ++ y → v ≡ u ++ z → v ≡ a ++ (w ++ (x ++ (y ++ z)))
four_parts a w x y z s t u v p q r e = rw (e, r, q, p) (simp append_assoc)

-- not grown at all
pub same_text : (a : List ℕ) → a ≡ a ++ []
same_text a = sym (append-nil a)

hex_append : (xs ys : List ℕ) → hex (xs ++ ys) ≡ hex xs ++ hex ys
unfolding hex
hex_append [] ys = refl
hex_append (x ∷ xs) ys = ap (λ z. hex_digit (x / 16) ∷ (hex_digit (x % 16) ∷ z)) (hex_append xs ys)

pub hex_none : hex [] ≡ []
unfolding hex
hex_none = refl

pub hex_more : (bs : List ℕ) (i : ℕ) → i < length bs → hex (take (i + 1) bs) ≡ hex (take i bs) ++ (hex_digit (get_or bs i 0 / 16) ∷ (hex_digit (get_or bs i 0 % 16) ∷ []))
unfolding hex
hex_more bs i l = ap hex (take_more bs i 0 l) ∙ hex_append (take i bs) (get_or bs i 0 ∷ [])

-- ---- the lines of pairs
pub with_none : (i a : ℕ) → lines_with i a 0 ≡ []
unfolding lines_with
with_none i a = refl

pub with_more : (i a j : ℕ) → a ≤ j → lines_with i a (j + 1 - a) ≡ lines_with i a (j - a) ++ pair_line i j true
unfolding lines_with
with_more i a j h =
    let m : j + 1 - a ≡ suc (j - a) = omega arith in
    let here : a + (j - a) ≡ j = omega arith in
    ap (lines_with i a) m ∙ ap (λ x. lines_with i a (j - a) ++ pair_line i x true) here

pub below_none : (n : ℕ) → lines_below n 0 ≡ []
unfolding lines_below
below_none n = refl

pub below_more : (n i : ℕ) → lines_below n (i + 1) ≡ lines_below n i ++ lines_with i (i + 1) (n - (i + 1))
unfolding lines_below
below_more n i = ap (lines_below n) (add-one i)

-- ---- how many pairs there are
twice_pairs : (n : ℕ) → pairs n * 2 ≡ n * (n - 1)
unfolding pairs
twice_pairs zero = refl
twice_pairs (suc zero) = refl
twice_pairs (suc (suc n)) =
    let before = twice_pairs (suc n) in
    let a : suc (suc n) * suc n ≡ suc n * suc n + suc n = suc-mul (suc n) (suc n) in
    let b : suc n * suc n ≡ suc n * n + suc n = mul-suc (suc n) n in
    let c : suc n * (suc n - 1) ≡ suc n * n = ap (λ x. suc n * x) (omega arith) in
    let d : suc (suc n) * (suc (suc n) - 1) ≡ suc (suc n) * suc n = ap (λ x. suc (suc n) * x) (omega arith) in
    omega (arith, before, a, b, c, d)

pub pairs_is : (n : ℕ) → n * (n - 1) / 2 ≡ pairs n
pairs_is n = let h = twice_pairs n in omega (arith, h)

-- the parts of a report on n columns, k of them data
pub report_is : (C : Coding) (k n : ℕ) (c : ℕ → List ℕ) (p q : List ℕ) → p ≡ column C k c k → q ≡ column C k c (k + 1) → n ≡ k + 2
    → parity_line (codes "P") p ++ (parity_line (codes "Q") q ++ (lines_below n n ++ count_line (n * (n - 1) / 2))) ≡ stripe_report C k c
unfolding stripe_report
report_is C k n c p q ep eq en =
    ap₂ (λ x y. parity_line (codes "P") x ++ (parity_line (codes "Q") y ++ (lines_below n n ++ count_line (n * (n - 1) / 2)))) ep eq
    ∙ ap (λ m. parity_line (codes "P") (column C k c k) ++ (parity_line (codes "Q") (column C k c (k + 1)) ++ (lines_below n n ++ count_line m))) (pairs_is n)
    ∙ ap (λ m. parity_line (codes "P") (column C k c k) ++ (parity_line (codes "Q") (column C k c (k + 1)) ++ (lines_below m m ++ count_line (pairs m)))) en

-- a report is given by the data columns alone
pub report_same : (C : Coding) (k : ℕ) (c d : ℕ → List ℕ) → column C k c k ≡ column C k d k → column C k c (k + 1) ≡ column C k d (k + 1) → stripe_report C k c ≡ stripe_report C k d
unfolding stripe_report
report_same C k c d ep eq =
    ap₂ (λ x y. parity_line (codes "P") x ++ (parity_line (codes "Q") y ++ (lines_below (k + 2) (k + 2) ++ count_line (pairs (k + 2))))) ep eq

-- a text that was made, under another description
pub made_as : {E : Type 0} (r : Result (String Global) E) (x y : List ℕ) → x ≡ y → IfOk r (λ s. string_bytes s ≡ x) → IfOk r (λ s. string_bytes s ≡ y)
made_as r x y e h = subst (λ z. IfOk r (λ s. string_bytes s ≡ z)) e h
