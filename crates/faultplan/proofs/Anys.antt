-- Whether some entry of a list passes a test.
use Rattle.std.proofs.Common.{◌≡◌, Bool, true, false, ◌||◌, List, [], ◌∷◌, map, refl, ap, ◌∙◌, ⊎_elim}
use Rattle.std.proofs.lemmas.Bool.{or_from, or_left, or_right, or_parts, or_cases}
use Rattle.faultplan.specs.declared.entry.Entry.{Entry}
use Rattle.faultplan.specs.Plans.{any}

-- ---- entries that are changed one by one
module _ (p q : Entry → Bool) (f : Entry → Entry) where
  pub any_alike : ((e : Entry) → p (f e) ≡ q e) → (es : List Entry) → any p (map f es) ≡ any q es
  any_alike h [] = refl
  any_alike h (e ∷ es) = ap (λ x. x || any p (map f es)) (h e) ∙ ap (λ x. q e || x) (any_alike h es)

  pub any_up : ((e : Entry) → q e ≡ true → p (f e) ≡ true) → (es : List Entry) → any q es ≡ true → any p (map f es) ≡ true
  any_up h [] t = t
  any_up h (e ∷ es) t =
      ⊎_elim (λ a. or_left (p (f e)) _ (h e a)) (λ a. or_right (p (f e)) _ (any_up h es a)) (or_cases (q e) (any q es) t)

  pub any_down : ((e : Entry) → q e ≡ false → p (f e) ≡ false) → (es : List Entry) → any q es ≡ false → any p (map f es) ≡ false
  any_down h [] t = t
  any_down h (e ∷ es) t = let a = or_parts (q e) (any q es) t in or_from (p (f e)) _ (h e a.0) (any_down h es a.1)

pub any_none : (p : Entry → Bool) (f : Entry → Entry) → ((e : Entry) → p (f e) ≡ false) → (es : List Entry) → any p (map f es) ≡ false
any_none p f h [] = refl
any_none p f h (e ∷ es) = or_from (p (f e)) _ (h e) (any_none p f h es)
