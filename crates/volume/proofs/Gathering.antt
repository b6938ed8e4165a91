-- Sums over the current columns of a stripe, and what they recover.
use Rattle.std.proofs.Common.{◌≡◌, ℕ, ◌+◌, ◌<◌, ◌≤◌, Bool, true, false, cond, ◌&&◌, List, length, is_some, is_ok, Some, None, Option, Result, sym, refl, ap, ◌∙◌}
use Rattle.std.proofs.lemmas.Bool.{true≢false, false≢true, and_from, cond-true, le-leb, lt-ltb}
use Rattle.code.specs.declared.CodeRefusal.{CodeRefusal}
use Rattle.code.specs.Blocks.{◌⊕◌, zeros, block_size}
use Rattle.code.specs.Answers.{answer, sized}
use Rattle.code.specs.Codes.{Coding}
use Rattle.code.proofs.Blocks.{kept_by_zeros}
use Rattle.parity.specs.Stripe.{gaps, if_present, plain_sum, mixed_sum}
use Rattle.parity.specs.Ways.{or_else, way, by_way, takes_plain, takes_mixed, recovered}
use Rattle.parity.specs.declared.Way.{Way}
use Rattle.recovery.specs.declared.loss.Lost.{Lost}
use Rattle.recovery.specs.Losses.{listed, noted}
use Rattle.recovery.specs.Answers.{on_stripe, named, on_way}
use Rattle.recovery.proofs.Outcomes.{taken_ok, good_two, good_three, way_taken}
use Rattle.recovery.proofs.Found.{way_noted, way_named, found_is}

-- a column that was loaded
pub loaded : (o : Option (List ℕ)) (old b : List ℕ) → true ≡ is_some o → b ≡ or_else o old → o ≡ Some b
loaded None old b e h = absurd (true≢false e)
loaded (Some v) old b e h = ap Some (sym h)

-- and one that was not
pub unloaded : (o : Option (List ℕ)) → false ≡ is_some o → o ≡ None
unloaded None e = refl
unloaded (Some v) e = absurd (false≢true e)

-- a column of the stripe is added
pub column_ok : (w k t : ℕ) (a b c : List ℕ) (r : Result Unit CodeRefusal) → k ≤ w → t < k + 2 → length a ≡ block_size → length b ≡ block_size → length c ≡ block_size
    → answer r ≡ on_stripe w k t (sized a && (sized b && sized c)) → is_ok r ≡ true
column_ok w k t a b c r hk ht ha hb hc e =
    taken_ok r (e ∙ cond-true _ _ _ (good_three a b c ha hb hc) ∙ cond-true _ _ _ (and_from _ _ (le-leb k w hk) (lt-ltb t (k + 2) ht)))

pub added : (ok w : Bool) (f : List ℕ → List ℕ) (o : Option (List ℕ)) (b s r : List ℕ) → ok ≡ true → o ≡ Some b → r ≡ cond (ok && w) (s ⊕ f b) s → r ≡ cond w (s ⊕ if_present f o) s
added true w f o b s r e h q = q ∙ ap (λ (x : Option (List ℕ)). cond w (s ⊕ if_present f x) s) (sym h)
added false w f o b s r e h q = absurd (false≢true e)

pub unadded : (w : Bool) (f : List ℕ → List ℕ) (o : Option (List ℕ)) (s : List ℕ) → o ≡ None → length s ≡ block_size → s ≡ cond w (s ⊕ if_present f o) s
unadded w f o s h l = none w ∙ ap (λ (x : Option (List ℕ)). cond w (s ⊕ if_present f x) s) (sym h)
  where
    none : (w : Bool) → s ≡ cond w (s ⊕ zeros) s
    none true = kept_by_zeros s l
    none false = refl

-- what is recovered by a survey
module _ (C : Coding) (k : ℕ) (cols : ℕ → Option (List ℕ)) (t : ℕ) (lost : Lost) (p : Bool) (v : Way) (hk : k ≤ C.limit) (el : lost ≡ noted (gaps cols k)) (ep : p ≡ is_some (cols k)) (ev : v ≡ way k (listed lost) p t) where
  surveyed_way : v ≡ way k (gaps cols k) (is_some (cols k)) t
  surveyed_way = ev ∙ ap (λ (x : Lost). way k (listed x) p t) el ∙ way_noted k (gaps cols k) p t ∙ ap (λ (x : Bool). way k (gaps cols k) x t) ep

  pub rebuilt : (a b r : List ℕ) (ans : Result Unit CodeRefusal) → is_some (cols t) ≡ false → length a ≡ block_size → length b ≡ block_size
      → a ≡ cond (takes_plain v) (plain_sum k cols (k + 2)) zeros → b ≡ cond (takes_mixed v) (mixed_sum C k cols (k + 2)) zeros
      → answer ans ≡ on_way C.limit v (sized a && sized b) → r ≡ cond (is_ok ans) (by_way C v a b) a → r ≡ recovered C k cols t
  rebuilt a b r ans h la lb ea eb z er =
      let n : named C.limit v ≡ true = ap (named C.limit) surveyed_way ∙ way_named C.limit cols k hk (gaps cols k) refl (is_some (cols k)) t in
      let ok : is_ok ans ≡ true = taken_ok ans (z ∙ way_taken C.limit v _ n (good_two a b la lb)) in
      found_is C k cols t v a b r h surveyed_way ea eb (er ∙ cond-true (is_ok ans) (by_way C v a b) a ok)
