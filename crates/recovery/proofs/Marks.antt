-- The columns of a stripe: what is missing, step by step.
use Rattle.std.proofs.Common.{◌≡◌, ℕ, ◌+◌, ◌≤◌, Bool, true, false, cond, not, List, [], ◌∷◌, length, is_some, Some, None, Option, Bor, sym, refl, ap, ◌∙◌, arith}
use Rattle.std.specs.Prelude.{option_copied}
use mir.Val.{bool_byte}
use Rattle.code.specs.Blocks.{◌⊕◌, zeros, block_size}
use Rattle.code.proofs.Blocks.{kept_by_zeros}
use Rattle.parity.specs.Stripe.{gaps, missing, if_present, sum}
use Rattle.parity.proofs.Gaps.{gaps_more, missing_more}
use Rattle.parity.proofs.Sums.{sum_step}
use Rattle.recovery.specs.declared.loss.Lost.{Lost}
use Rattle.recovery.specs.Losses.{listed, noted}

-- a column is there if it is marked
pub some_mark : {A : Type 0} (b : Bool) (x : A) → is_some (cond b (Some x) None) ≡ b
some_mark true x = refl
some_mark false x = refl

-- what stands behind a reference is there or not as the reference is
pub some_copied : (o : Option (Bor (List ℕ))) → is_some (option_copied o) ≡ is_some o
some_copied None = refl
some_copied (Some x) = refl

-- whether a column is there, by the reference to it
pub some_at : (o : Option (Bor (List ℕ))) (x : Option (List ℕ)) (b : Bool) → option_copied o ≡ x → b ≡ is_some o → b ≡ is_some x
some_at o x b h e = e ∙ sym (some_copied o) ∙ ap is_some h

gone_counted : (gone : Bool) → bool_byte gone ≡ cond (not gone) 0 1
gone_counted true = refl
gone_counted false = refl

pub missing_next : (cols : ℕ → Option (List ℕ)) (t : ℕ) (o : Option (Bor (List ℕ))) (gone : Bool) (n : ℕ) → option_copied o ≡ cols t → is_some o ≡ not gone → n ≡ bool_byte gone
    → missing cols (t + 1) ≡ missing cols t + n
missing_next cols t o gone n h e q =
    missing_more cols t
    ∙ ap (λ m. missing cols t + m) (ap (λ b. cond b 0 1) (ap is_some (sym h) ∙ some_copied o ∙ e) ∙ sym (q ∙ gone_counted gone))

pub at_most_one : (gone : Bool) (n : ℕ) → n ≡ bool_byte gone → n ≤ 1
at_most_one true n e = omega (arith, e)
at_most_one false n e = omega (arith, e)

-- a column above those noted
noted_more : (t : ℕ) (l : List ℕ) → noted (t ∷ listed (noted l)) ≡ noted (t ∷ l)
noted_more t [] = refl
noted_more t (i ∷ []) = refl
noted_more t (i ∷ (j ∷ l)) = refl

noted_cond : (b : Bool) (t : ℕ) (l : List ℕ) → cond b (noted l) (noted (t ∷ listed (noted l))) ≡ noted (cond b l (t ∷ l))
noted_cond true t l = refl
noted_cond false t l = noted_more t l

pub lost_next : (cols : ℕ → Option (List ℕ)) (t : ℕ) (here : Bool) (lost r : Lost) → here ≡ is_some (cols t) → lost ≡ noted (gaps cols t)
    → r ≡ cond here lost (noted (t ∷ listed lost)) → r ≡ noted (gaps cols (t + 1))
lost_next cols t here lost r p h e =
    e ∙ ap (λ x. cond here x (noted (t ∷ listed x))) h ∙ noted_cond here t (gaps cols t)
    ∙ ap noted (ap (λ b. cond b (gaps cols t) (t ∷ gaps cols t)) p ∙ sym (gaps_more cols t))

-- ---- a sum that is kept only where a way needs it
-- a column that is there adds its part
pub present_added : (w : Bool) (f : List ℕ → List ℕ) (x : Option (List ℕ)) (o : Option (Bor (List ℕ))) (b : Bor (List ℕ)) (s t u : List ℕ) → option_copied o ≡ x → o ≡ Some b
    → u ≡ t → t ≡ cond w (s ⊕ f b.now) s → u ≡ cond w (s ⊕ if_present f x) s
present_added w f x o b s t u h e q r = q ∙ r ∙ ap (λ y. cond w (s ⊕ if_present f y) s) (ap option_copied (sym e) ∙ h)

-- a missing column adds nothing
pub absent_kept : (w : Bool) (f : List ℕ → List ℕ) (x : Option (List ℕ)) (o : Option (Bor (List ℕ))) (s t : List ℕ) → option_copied o ≡ x → o ≡ None → length s ≡ block_size
    → t ≡ s → t ≡ cond w (s ⊕ if_present f x) s
absent_kept true f x o s t h e l q = q ∙ kept_by_zeros s l ∙ ap (λ y. s ⊕ if_present f y) (ap option_copied (sym e) ∙ h)
absent_kept false f x o s t h e l q = q

pub needed_step : (w : Bool) (f : ℕ → List ℕ) (i : ℕ) (s t : List ℕ) → s ≡ cond w (sum i f) zeros → t ≡ cond w (s ⊕ f i) s → t ≡ cond w (sum (i + 1) f) zeros
needed_step true f i s t h e = sum_step f i s t h e
needed_step false f i s t h e = e ∙ h

pub needed_none : (w : Bool) (f : ℕ → List ℕ) (s : List ℕ) → sum 0 f ≡ zeros → s ≡ zeros → s ≡ cond w (sum 0 f) zeros
needed_none true f s e h = h ∙ sym e
needed_none false f s e h = h
