-- A refusal for loss comes exactly when three columns are missing, and its masks name the slots.
use Rattle.std.proofs.Common.{◌≡◌, ℕ, ◌+◌, ◌<◌, ◌≤◌, Bool, true, false, cond, not, eqb, ltb, ◌⊎◌, List, [], ◌∷◌, length, is_some, Ok, Err, Result, sym, refl, ap, ◌∙◌, subst, inl, inr, ⊎_elim, arith}
use Rattle.std.proofs.lemmas.Bool.{false≢true, true≢false, cond-true, ltb-true, lt-ltb, and_parts}
use Rattle.code.specs.Blocks.{block_size}
use Rattle.parity.specs.Stripe.{gaps}
use Rattle.parity.proofs.Gaps.{gaps_first, gaps_in, In}
use Rattle.contents.specs.declared.Loss.{Loss}
use Rattle.contents.specs.declared.Status.{Status}
use Rattle.contents.specs.declared.Status.TheVariants.{Current, Gone, Behind, Unreadable}
use Rattle.contents.specs.Columns.{Members, Frontiers, status, is_current, is_gone, is_behind, is_unreadable, mask, loss_of}
use Rattle.contents.specs.Refusals.{Told, plain, with_loss, refusal_number}
use Rattle.contents.specs.Shapes.{Shape, data_columns, blocks, stripe_of, column_of, columns_at, missing_at, lossy, loss_at}
use Rattle.contents.specs.Answers.{read_lost, after_write, mended, refused, absent}
use Rattle.contents.specs.Theorems.{ThreeMissing, bit, Exactly, Names, TellsLoss, Losses}
use Rattle.contents.proofs.Statuses.{none_of, current_is}
use Rattle.contents.proofs.Masks.{mask_bit, set_only, set_if}

-- ---- the masks name the slots

-- a test for one status
abbrev Tests : (Status → Bool) → Status → Type 0
Tests is x = (y : Status) → (is y ≡ true → y ≡ x) × (y ≡ x → is y ≡ true)

none : {A : Type 0} → false ≡ true → A
none e = absurd (false≢true e)

gone_is : Tests is_gone Gone
gone_is Current = (none, λ e. ap is_gone e)
gone_is Gone = ((λ e. refl), λ e. refl)
gone_is Behind = (none, λ e. ap is_gone e)
gone_is Unreadable = (none, λ e. ap is_gone e)

behind_is : Tests is_behind Behind
behind_is Current = (none, λ e. ap is_behind e)
behind_is Gone = (none, λ e. ap is_behind e)
behind_is Behind = ((λ e. refl), λ e. refl)
behind_is Unreadable = (none, λ e. ap is_behind e)

unreadable_is : Tests is_unreadable Unreadable
unreadable_is Current = (none, λ e. ap is_unreadable e)
unreadable_is Gone = (none, λ e. ap is_unreadable e)
unreadable_is Behind = (none, λ e. ap is_unreadable e)
unreadable_is Unreadable = ((λ e. refl), λ e. refl)

-- a status that is not current is one of three, and no status is two
one_cause : (x : Status) → is_current x ≡ false → (is_gone x ≡ true) ⊎ ((is_behind x ≡ true) ⊎ (is_unreadable x ≡ true))
one_cause Current e = none (sym e)
one_cause Gone e = inl refl
one_cause Behind e = inr (inl refl)
one_cause Unreadable e = inr (inr refl)

once_by : (x : Status) → cond (is_gone x) 1 0 + cond (is_behind x) 1 0 + cond (is_unreadable x) 1 0 ≤ 1
once_by Current = omega arith
once_by Gone = omega arith
once_by Behind = omega arith
once_by Unreadable = omega arith

module _ (V : Shape) (M : Members) (F : Frontiers) (s : ℕ) where
  abbrev has : (Status → Bool) → ℕ → Bool
  has is i = is (status M F s i)

  exactly : (x : Status) (is : Status → Bool) → Tests is x → Exactly V M F s x (mask (has is) V.slots)
  exactly x is h i = (
    (λ e. let r = set_only (has is) V.slots i e in (r.0, (h (status M F s i)).0 r.1)),
    λ e. set_if (has is) V.slots i e.0 ((h (status M F s i)).1 e.1),
  )

  once : (i : ℕ) → bit (mask (has is_gone) V.slots) i + bit (mask (has is_behind) V.slots) i + bit (mask (has is_unreadable) V.slots) i ≤ 1
  once i =
      let a = mask_bit (has is_gone) V.slots i in
      let b = mask_bit (has is_behind) V.slots i in
      let c = mask_bit (has is_unreadable) V.slots i in
      let o = once_by (status M F s i) in
      omega arith

  pub names : (n : ℕ) → Names V M F s (with_loss n (loss_at V M F s))
  unfolding loss_of
  names n = record {
    stripe = refl;
    gone = exactly Gone is_gone gone_is;
    behind = exactly Behind is_behind behind_is;
    unreadable = exactly Unreadable is_unreadable unreadable_is;
    all = λ i l e.
        ⊎_elim
        (λ (h : has is_gone i ≡ true). inl (set_if (has is_gone) V.slots i l h))
        (⊎_elim
        (λ (h : has is_behind i ≡ true). inr (inl (set_if (has is_behind) V.slots i l h)))
        (λ (h : has is_unreadable i ≡ true). inr (inr (set_if (has is_unreadable) V.slots i l h))))
        (one_cause (status M F s i) (sym (current_is M F s i) ∙ ap is_some e));
    once = once;
  }

-- ---- three missing columns
one_of : {v i : ℕ} → (v ≡ i) ⊎ ⊥ → v ≡ i
one_of h = ⊎_elim (λ e. e) (λ e. absurd e) h

two_of : {v i j : ℕ} → (v ≡ i) ⊎ ((v ≡ j) ⊎ ⊥) → (v ≡ i) ⊎ (v ≡ j)
two_of h = ⊎_elim inl (⊎_elim inr (λ e. absurd e)) h

three_in : (t u w : ℕ) (g : List ℕ) → t < u → u < w → In t g → In u g → In w g → 2 < length g
three_in t u w [] a b x y z = absurd x
three_in t u w (i ∷ []) a b x y z = let x' = one_of x in let y' = one_of y in absurd (omega (arith, x', y'))
three_in t u w (i ∷ (j ∷ [])) a b x y z = let x' = two_of x in let y' = two_of y in let z' = two_of z in absurd (omega (arith, x', y', z'))
three_in t u w (i ∷ (j ∷ (l ∷ g))) a b x y z = omega arith

module _ (V : Shape) (M : Members) (F : Frontiers) (s : ℕ) where
  pub three_lossy : ThreeMissing V M F s → lossy V M F s ≡ true
  three_lossy h =
      let (t, u, w, tu, uw, wn, et, eu, ew) = h in
      let n = data_columns V + 2 in
      lt-ltb 2 (missing_at V M F s)
      (three_in t u w (gaps (columns_at V M F s) n) tu uw
      (gaps_in (columns_at V M F s) n t (omega arith) (ap is_some et))
      (gaps_in (columns_at V M F s) n u (omega arith) (ap is_some eu))
      (gaps_in (columns_at V M F s) n w wn (ap is_some ew)))

  pub lossy_three : lossy V M F s ≡ true → ThreeMissing V M F s
  lossy_three p = go (gaps (columns_at V M F s) (data_columns V + 2)) refl
    where
      go : (g : List ℕ) → gaps (columns_at V M F s) (data_columns V + 2) ≡ g → ThreeMissing V M F s
      go [] e = let h = ltb-true 2 _ p in let z = ap length e in absurd (omega (arith, h, z))
      go (i ∷ []) e = let h = ltb-true 2 _ p in let z = ap length e in absurd (omega (arith, h, z))
      go (i ∷ (j ∷ [])) e = let h = ltb-true 2 _ p in let z = ap length e in absurd (omega (arith, h, z))
      go (i ∷ (j ∷ (l ∷ g))) e =
          let a = gaps_first (columns_at V M F s) (data_columns V + 2) i (j ∷ (l ∷ g)) e in
          let b = gaps_first (columns_at V M F s) i j (l ∷ g) a.2 in
          let d = gaps_first (columns_at V M F s) j l g b.2 in
          (l, j, i, d.0, b.0, a.0, none_of _ d.1, none_of _ b.1, none_of _ a.1)

  -- a call that checks for loss, and else answers r, which is not refusal 4
  pub tells : {U : Type 0} (r : Result U Told) → (◌≡◌ {A = ℕ} (refusal_number r) 4 → ⊥) → TellsLoss V M F s (cond (lossy V M F s) (Err (with_loss 4 (loss_at V M F s))) r)
  tells {U} r n = go (lossy V M F s) refl
    where
      go : (x : Bool) → lossy V M F s ≡ x → TellsLoss V M F s {U = U} (cond x (Err (with_loss 4 (loss_at V M F s))) r)
      go true e = record {
        only = λ _. lossy_three e;
        always = λ _. refl;
        names = λ t q _. let d : with_loss 4 (loss_at V M F s) ≡ t = cc in subst (λ (x : Told). Names V M F s x) d (names V M F s 4);
      }
      go false e = record {
        only = λ q. absurd (n q);
        always = λ h. absurd (true≢false (sym (three_lossy h) ∙ e));
        names = λ t q m. absurd (n (ap refusal_number q ∙ m));
      }

-- ---- the calls

-- which check a refusal came from
read_refused : (sized below lost : Bool) (x t : Told) → ◌≡◌ {A = Result Unit Told} (cond sized (cond below (cond lost (Err x) (Ok tt)) (Err (plain 2))) (Err (plain 3))) (Err t)
    → ◌≡◌ {A = ℕ} t.number 4 → (lost ≡ true) × (x ≡ t)
read_refused true true true x t e n = (refl, cc)
read_refused true true false x t e n = absurd cc
read_refused true false lost x t e n = absurd cc
read_refused false below lost x t e n = absurd cc

write_torn : (sized below lost torn : Bool) (l m : Loss) (k : ℕ) (t : Told)
    → ◌≡◌ {A = Result ℕ Told} (cond sized (cond below (cond lost (Err (with_loss 4 l)) (cond torn (Err (with_loss 5 m)) (Ok k))) (Err (plain 2))) (Err (plain 3))) (Err t)
    → ◌≡◌ {A = ℕ} t.number 5 → (torn ≡ true) × (with_loss 5 m ≡ t)
write_torn true true true torn l m k t e n = absurd cc
write_torn true true false true l m k t e n = (refl, cc)
write_torn true true false false l m k t e n = absurd cc
write_torn true false lost torn l m k t e n = absurd cc
write_torn false below lost torn l m k t e n = absurd cc

not_four : (torn : Bool) (l : Loss) (k : ℕ) → ◌≡◌ {A = ℕ} (refusal_number {U = ℕ} (cond torn (Err (with_loss 5 l)) (Ok k))) 4 → ⊥
not_four true l k e = omega arith
not_four false l k e = omega arith

pub losses : Losses
losses V M F = record {
  write = λ a N la.
      let s = stripe_of V a in
      subst (λ (r : Result ℕ Told). TellsLoss V M F s r) (sym (cond-true _ _ _ (lt-ltb a (blocks V) la)))
      (tells V M F s (after_write V N F s) (not_four (lossy V N F s) (loss_at V N F s) (missing_at V N F s)));
  scrub = λ s ls.
      let counts : Result (ℕ × ℕ × ℕ) Told = Ok (mended V M F s, refused V M F s, absent V M F s) in
      subst (λ (r : Result (ℕ × ℕ × ℕ) Told). TellsLoss V M F s r) (sym (cond-true _ _ _ (lt-ltb s V.stripes ls)))
      (tells V M F s counts (λ (e : ◌≡◌ {A = ℕ} 0 4). omega arith));
  read = λ a len t e n.
      let s = stripe_of V a in
      let r = read_refused (eqb len block_size) (ltb a (blocks V)) (read_lost V M F a) (with_loss 4 (loss_at V M F s)) t e n in
      (lossy_three V M F s (and_parts (not (is_some (columns_at V M F s (column_of V a)))) (lossy V M F s) r.0).1, subst (λ (x : Told). Names V M F s x) r.1 (names V M F s 4));
  torn = λ a len N t e n.
      let s = stripe_of V a in
      let r = write_torn (eqb len block_size) (ltb a (blocks V)) (lossy V M F s) (lossy V N F s) (loss_at V M F s) (loss_at V N F s) (missing_at V N F s) t e n in
      (lossy_three V N F s r.0, subst (λ (x : Told). Names V N F s x) r.1 (names V N F s 5));
}
