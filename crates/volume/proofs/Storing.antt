-- Writes to the columns of a stripe.
use Rattle.std.proofs.Common.{◌≡◌, ℕ, ◌<◌, ◌≤◌, Bool, true, false, cond, ◌&&◌, eqb, ltb, List, length, is_ok, Ok, Err, Result, sym, refl, ap, ◌∙◌, ap₂, ⊎_elim, arith}
use Rattle.std.proofs.lemmas.Bool.{true≢false, cases_Bool, cond-true, cond-false, lt-ltb, le-ltb}
use Rattle.code.specs.declared.CodeRefusal.{CodeRefusal}
use Rattle.code.specs.Blocks.{◌⊕◌, block_size}
use Rattle.code.specs.Answers.{answer, sized, on_buffers, on_column}
use Rattle.member.specs.Meaning.{Meaning}
use Rattle.member.specs.Changes.{Written}
use Rattle.recovery.proofs.Outcomes.{taken_ok, good_two, good_three, column_taken}
use Rattle.contents.specs.Columns.{Members, Frontiers}
use Rattle.contents.specs.Changes.{Moved, Put, due}
use Rattle.contents.specs.Refusals.{Told}

-- a member that is gone keeps its meaning over a write of anything anywhere
gone_kept : (m n : Meaning) (s : ℕ) (v : List ℕ) → Written m s v n → m.gone ≡ true → n ≡ m
gone_kept m n s v w g =
    ⊎_elim
    (λ (e : eqb (length v) block_size ≡ true).
    ⊎_elim
    (λ (l : ltb s m.count ≡ true). w.refused _ (cond-true _ _ _ e ∙ cond-true _ _ _ l ∙ cond-true _ _ _ g) (λ (h : ◌≡◌ {A = ℕ} 1 3). omega arith))
    (λ (l : ltb s m.count ≡ false). w.refused _ (cond-true _ _ _ e ∙ cond-false _ _ _ l) (λ (h : ◌≡◌ {A = ℕ} 4 3). omega arith))
    (cases_Bool (ltb s m.count)))
    (λ (e : eqb (length v) block_size ≡ false). w.refused _ (cond-false _ _ _ e) (λ (h : ◌≡◌ {A = ℕ} 5 3). omega arith))
    (cases_Bool (eqb (length v) block_size))

not_due : (g b : Bool) → b ≡ true → cond g false b ≡ false → g ≡ true
not_due true b e d = refl
not_due false b e d = absurd (true≢false (sym e ∙ d))

never_due : (g b : Bool) → b ≡ false → cond g false b ≡ false
never_due true b e = refl
never_due false b e = e

module _ (M : Members) (F : Frontiers) (s i : ℕ) (v : List ℕ) where
  -- a write was made below the frontier
  pub stored_below : (N : Members) → ltb s (F i) ≡ true → Moved (λ m n. Written m s v n) i M N → Moved (Put (due M F s i) s v) i M N
  stored_below N below h = record {
    here = record { written = λ _. h.here; kept = λ d. gone_kept (M i) (N i) s v h.here (not_due (M i).gone (ltb s (F i)) below d) };
    others = h.others;
  }

  -- none was made beyond it
  pub stored_beyond : ltb s (F i) ≡ false → Moved (Put (due M F s i) s v) i M M
  stored_beyond beyond = record {
    here = record { written = λ d. absurd (true≢false (sym d ∙ never_due (M i).gone (ltb s (F i)) beyond)); kept = λ _. refl };
    others = λ j ne. refl;
  }

-- ---- the number of missing columns after a write
pub after_torn : (m : ℕ) (e : Told) → 2 < m → ◌≡◌ {A = Result ℕ Told} (Err e) (cond (ltb 2 m) (Err e) (Ok m))
after_torn m e l = sym (cond-true _ _ _ (lt-ltb 2 m l))

pub after_whole : (n m : ℕ) (e : Told) → n ≡ m → m ≤ 2 → ◌≡◌ {A = Result ℕ Told} (Ok n) (cond (ltb 2 m) (Err e) (Ok m))
after_whole n m e q l = ap Ok q ∙ sym (cond-false _ _ _ (le-ltb 2 m l))

-- ---- the new parities
pub xor_done : (a b r : List ℕ) (ans : Result Unit CodeRefusal) → length a ≡ block_size → length b ≡ block_size → answer ans ≡ on_buffers (sized a && sized b)
    → r ≡ cond (is_ok ans) (b ⊕ a) b → r ≡ b ⊕ a
xor_done a b r ans la lb e h = h ∙ cond-true _ _ _ (taken_ok ans (e ∙ cond-true _ _ _ (good_two a b la lb)))

pub change_ok : (w j : ℕ) (d p q : List ℕ) (ans : Result Unit CodeRefusal) → j < w → length d ≡ block_size → length p ≡ block_size → length q ≡ block_size
    → answer ans ≡ on_column w j (sized d && (sized p && sized q)) → is_ok ans ≡ true
change_ok w j d p q ans l ld lp lq e = taken_ok ans (e ∙ column_taken w j _ l (good_three d p q ld lp lq))

pub change_done : (f : List ℕ → List ℕ) (ok : Bool) (p p' d d' r : List ℕ) → ok ≡ true → p ≡ p' → d ≡ d' → r ≡ cond ok (p ⊕ f d) p → r ≡ p' ⊕ f d'
change_done f ok p p' d d' r e ep ed h = h ∙ cond-true _ _ _ e ∙ ap₂ (λ (x y : List ℕ). x ⊕ f y) ep ed
