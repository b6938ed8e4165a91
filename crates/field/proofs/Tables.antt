-- The rules of a table of powers and of a table of logarithms, each from one test over the whole table.
use Rattle.std.proofs.Common.{◌≡◌, ℕ, zero, suc, ◌+◌, ◌<◌, Bool, true, ◌&&◌, eqb, ltb, List, [], ◌∷◌, map, length, get_or, sym, refl, ap, ◌∙◌, ap₂, arith}
use Rattle.std.specs.List.{range_with_len}
use Rattle.std.proofs.lemmas.List.FromFn.{fill_by_all, length-map-range_with_len, get_or-map-range_with_len}
use Rattle.std.proofs.lemmas.List.{ext_get_or}
use Rattle.std.proofs.lemmas.Bool.{and_parts, eqb-true, ltb-true}
use Rattle.field.specs.Field.{shifted, power, log}
use Rattle.field.specs.Terms.{shifts}
use Rattle.field.proofs.Powers.{power_shift, get_or_shifts}
use Rattle.field.proofs.Logs.{log_is}

-- the list begins with a, and each entry is the shift of the one before
abbrev pub shifting : ℕ → List ℕ → Bool
shifting a [] = true
shifting a (x ∷ xs) = eqb x a && shifting (shifted x) xs

shifting_is : (a : ℕ) (xs : List ℕ) → shifting a xs ≡ true → xs ≡ shifts (length xs) a
unfolding shifts
shifting_is a [] t = refl
shifting_is a (x ∷ xs) t =
    let p = and_parts (eqb x a) (shifting (shifted x) xs) t in
    let e : x ≡ a = eqb-true x a p.0 in
    ap₂ ◌∷◌ e (shifting_is (shifted x) xs p.1 ∙ ap (λ y. shifts (length xs) (shifted y)) e)

pub power_table : (xs : List ℕ) → shifting 1 xs ≡ true → length xs ≡ 255 → xs ≡ map power (range_with_len 0 255)
power_table xs t e =
    fill_by_all power xs 255 0 e
    (λ k l. ap (λ ys. get_or ys k 0) (shifting_is 1 xs t) ∙ get_or_shifts (length xs) 1 k (omega arith) ∙ sym (power_shift k))

-- at each entry of the list, the table of powers has b, b + 1, ..
abbrev pub logging : List ℕ → ℕ → List ℕ → Bool
logging powers b [] = true
logging powers b (x ∷ xs) = (ltb x 255 && eqb (get_or powers x 0) b) && logging powers (suc b) xs

logging_at : (xs : List ℕ) (b k : ℕ) → logging (shifts 255 1) b xs ≡ true → k < length xs → get_or xs k 0 ≡ log (b + k)
logging_at [] b k t h = absurd (omega arith)
logging_at (x ∷ xs) b zero t h =
    let p = (and_parts (ltb x 255 && eqb (get_or (shifts 255 1) x 0) b) (logging (shifts 255 1) (suc b) xs) t).0 in
    let q = and_parts (ltb x 255) (eqb (get_or (shifts 255 1) x 0) b) p in
    let l : x < 255 = ltb-true x 255 q.0 in
    let e : b ≡ b + 0 = omega arith in
    sym (log_is x (b + 0) l (power_shift x ∙ sym (get_or_shifts 255 1 x l) ∙ eqb-true (get_or (shifts 255 1) x 0) b q.1 ∙ e))
logging_at (x ∷ xs) b (suc k) t h =
    let p = (and_parts (ltb x 255 && eqb (get_or (shifts 255 1) x 0) b) (logging (shifts 255 1) (suc b) xs) t).1 in
    let e : suc b + k ≡ b + suc k = omega arith in
    logging_at xs (suc b) k p (omega arith) ∙ ap log e

pub log_table : (xs : List ℕ) → logging (shifts 255 1) 1 xs ≡ true → length xs ≡ 255 → xs ≡ map log (range_with_len 1 255)
log_table xs t e =
    ext_get_or 0 xs (map log (range_with_len 1 255)) (e ∙ sym (length-map-range_with_len log 1 255))
    (λ k l. logging_at xs 1 k t l ∙ sym (get_or-map-range_with_len log 1 255 k (1 + k) 0 (omega arith) refl))
