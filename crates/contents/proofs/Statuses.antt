-- How a column stands, by its member and its slot's frontier.
use Rattle.std.proofs.Common.{◌≡◌, ℕ, ◌<◌, Bool, true, false, cond, ltb, List, is_some, Some, None, Option, sym, refl, ap, ◌∙◌}
use Rattle.std.proofs.lemmas.Bool.{cond-true, cond-false, lt-ltb, false≢true}
use Rattle.parity.specs.Stripe.{Holds}
use Rattle.contents.specs.declared.Status.{Status}
use Rattle.contents.specs.declared.Status.TheVariants.{Current, Gone, Behind, Unreadable}
use Rattle.contents.specs.Columns.{Members, Frontiers, status, held, is_current, is_unreadable}

pub none_of : {A : Type 0} (o : Option A) → is_some o ≡ false → o ≡ None
none_of None e = refl
none_of (Some x) e = absurd cc

-- by gone, below the frontier, and the block
abbrev pub status_by : Bool → Bool → Option (List ℕ) → Status
status_by gone below o = cond gone Gone (cond below (cond (is_some o) Current Unreadable) Behind)

abbrev pub shown : Bool → Bool → Option (List ℕ) → Option (List ℕ)
shown gone below o = cond gone None (cond below o None)

shown_is : (g b : Bool) (o : Option (List ℕ)) → cond (is_current (status_by g b o)) o None ≡ shown g b o
shown_is true b o = refl
shown_is false false o = refl
shown_is false true None = refl
shown_is false true (Some x) = refl

current_by : (g b : Bool) (o : Option (List ℕ)) → is_some (cond (is_current (status_by g b o)) o None) ≡ is_current (status_by g b o)
current_by true b o = refl
current_by false false o = refl
current_by false true None = refl
current_by false true (Some x) = refl

pub shown_holds : (g b : Bool) (o : Option (List ℕ)) (v : List ℕ) → Holds o v → Holds (shown g b o) v
shown_holds true b o v h = tt
shown_holds false true o v h = h
shown_holds false false o v h = tt

unreadable_by : (g b : Bool) (o : Option (List ℕ)) → is_unreadable (status_by g b o) ≡ true → (g ≡ false) × (b ≡ true) × (o ≡ None)
unreadable_by true b o e = absurd (false≢true e)
unreadable_by false false o e = absurd (false≢true e)
unreadable_by false true None e = (refl, refl, refl)
unreadable_by false true (Some x) e = absurd (false≢true e)

module _ (M : Members) (F : Frontiers) (s i : ℕ) where
  pub status_is : status M F s i ≡ status_by (M i).gone (ltb s (F i)) ((M i).block s)
  unfolding status
  status_is = refl

  pub held_is : held M F s i ≡ shown (M i).gone (ltb s (F i)) ((M i).block s)
  unfolding held status
  held_is = shown_is (M i).gone (ltb s (F i)) ((M i).block s)

  -- a column holds bytes exactly where it is current
  pub current_is : is_some (held M F s i) ≡ is_current (status M F s i)
  unfolding held status
  current_is = current_by (M i).gone (ltb s (F i)) ((M i).block s)

  -- a present member with a readable block below the frontier is current
  pub status_current : (M i).gone ≡ false → s < F i → is_some ((M i).block s) ≡ true → status M F s i ≡ Current
  status_current g l o = status_is ∙ cond-false _ _ _ g ∙ cond-true _ _ _ (lt-ltb s (F i) l) ∙ cond-true _ _ _ o

  -- an unreadable column has a present member and lies below the frontier
  pub unreadable_parts : is_unreadable (status M F s i) ≡ true → ((M i).gone ≡ false) × (ltb s (F i) ≡ true) × ((M i).block s ≡ None)
  unreadable_parts u = unreadable_by (M i).gone (ltb s (F i)) ((M i).block s) (sym (ap is_unreadable status_is) ∙ u)
