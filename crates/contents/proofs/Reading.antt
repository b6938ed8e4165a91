-- What a read hands out is what all contents that fit share; where it is refused for loss they share nothing there.
use Rattle.std.proofs.Common.{◌≡◌, ℕ, ◌+◌, ◌*◌, ◌/◌, ◌%◌, ◌<◌, Bool, true, false, cond, not, eqb, ltb, List, length, is_some, is_ok, Some, None, Ok, Err, Option, Result, sym, refl, ap, ◌∙◌, subst, ⊎_elim, arith}
use lib.Arith.{digits_div, digits_mod}
use Rattle.std.proofs.lemmas.Bool.{true≢false, cases_Bool, cases_eq, cond-true, cond-false, cond_both, ltb-true, lt-ltb, eq-eqb, ne_eqb, and_cases, and_parts, not-true}
use Rattle.code.specs.Blocks.{Block, block_size}
use Rattle.parity.specs.Stripe.{Holds, Fits}
use Rattle.parity.specs.Ways.{or_else}
use Rattle.parity.proofs.Columns.{column_data}
use Rattle.parity.proofs.Freedom.{free_column}
use Rattle.contents.specs.Columns.{Members, Frontiers}
use Rattle.contents.specs.Refusals.{Told, plain, with_loss, refusal_number}
use Rattle.contents.specs.Shapes.{Shape, Valid, data_columns, blocks, stripe_of, column_of, columns_at, missing_at, lossy, loss_at, recovered_at, stripe, FitsVolume}
use Rattle.contents.specs.Answers.{read_lost, read_outcome}
use Rattle.contents.specs.Theorems.{Reading, Reads}
use Rattle.contents.proofs.Fitting.{fits_cong, gives, reaches, stripe_below, column_below, block_at, content_stripe, recovered_is}

-- a read's answer by its three checks
abbrev answer_by : Bool → Bool → Bool → Told → Result Unit Told
answer_by sized below lost t = cond sized (cond below (cond lost (Err t) (Ok tt)) (Err (plain 2))) (Err (plain 3))

-- an answered read met no check
answered_by : (sized below lost : Bool) (t : Told) → answer_by sized below lost t ≡ Ok tt → (below ≡ true) × (lost ≡ false)
answered_by true true true t e = absurd cc
answered_by true true false t e = (refl, refl)
answered_by true false lost t e = absurd cc
answered_by false below lost t e = absurd cc

-- one refused with 4 met that check
lost_by : (sized below lost : Bool) (t : Told) → ◌≡◌ {A = ℕ} (refusal_number (answer_by sized below lost t)) 4 → (below ≡ true) × (lost ≡ true)
lost_by true true true t e = (refl, refl)
lost_by true true false t e = absurd (omega arith)
lost_by true false lost t e = absurd (omega arith)
lost_by false below lost t e = absurd (omega arith)

or_else_own : (o : Option (List ℕ)) (x y : List ℕ) → not (is_some o) ≡ false → Holds o y → or_else o x ≡ y
or_else_own None x y p h = absurd (true≢false p)
or_else_own (Some b) x y p h = h

module _ (V : Shape) (L : Valid V) (M : Members) (F : Frontiers) (a : ℕ) (la : a < blocks V) (c : ℕ → List ℕ) (f : FitsVolume V M F c) where
  own_gives : gives V c (stripe_of V a) (column_of V a) ≡ c a
  own_gives = column_data V.code (data_columns V) (stripe V c (stripe_of V a)) (column_of V a) (column_below V L a la) ∙ ap c (block_at V L a)

  pub read_shares : read_lost V M F a ≡ false → recovered_at V M F (stripe_of V a) (column_of V a) ≡ c a
  read_shares p =
      let s = stripe_of V a in
      let i = column_of V a in
      let li : i < data_columns V = column_below V L a la in
      let l2 : i < data_columns V + 2 = omega (arith, li) in
      ⊎_elim
      (λ (q : not (is_some (columns_at V M F s i)) ≡ false). or_else_own (columns_at V M F s i) _ _ q (f.fits s (stripe_below V L a la) i l2) ∙ own_gives)
      (λ (q : lossy V M F s ≡ false). recovered_is V L M F c f s (stripe_below V L a la) q i l2 ∙ own_gives)
      (and_cases (not (is_some (columns_at V M F s i))) (lossy V M F s) p)

  -- c with another stripe s
  abbrev spread : ℕ → (ℕ → List ℕ) → ℕ → List ℕ
  spread s d x = cond (eqb (x / data_columns V) s) (d (x % data_columns V)) (c x)

  spread_in : (s : ℕ) (d : ℕ → List ℕ) (i : ℕ) → i < data_columns V → d i ≡ stripe V (spread s d) s i
  spread_in s d i l = sym (cond-true _ _ _ (eq-eqb ((s * data_columns V + i) / data_columns V) s (digits_div s l)) ∙ ap d (digits_mod s l))

  spread_out : (s : ℕ) (d : ℕ → List ℕ) (u i : ℕ) → (u ≡ s → ⊥) → i < data_columns V → stripe V c u i ≡ stripe V (spread s d) u i
  spread_out s d u i n l = sym (cond-false _ _ _ (ne_eqb ((u * data_columns V + i) / data_columns V) s (λ e. n (sym (digits_div u l) ∙ e))))

  spread_fits : (s : ℕ) (d : ℕ → List ℕ) → Fits V.code (data_columns V) d (columns_at V M F s)
      → (u : ℕ) → u < V.stripes → Fits V.code (data_columns V) (stripe V (spread s d) u) (columns_at V M F u)
  spread_fits s d g u lu =
      ⊎_elim
      (λ (e : u ≡ s).
      subst (λ (x : ℕ). Fits V.code (data_columns V) (stripe V (spread s d) x) (columns_at V M F x)) (sym e)
      (fits_cong V.code (data_columns V) d (stripe V (spread s d) s) (columns_at V M F s) (spread_in s d) g))
      (λ (n : u ≡ s → ⊥).
      fits_cong V.code (data_columns V) (stripe V c u) (stripe V (spread s d) u) (columns_at V M F u) (λ i l. spread_out s d u i n l) (f.fits u lu))
      (cases_eq u s)

  -- another content fits that differs at the block
  pub lost_differs : read_lost V M F a ≡ true → (d : ℕ → List ℕ) × FitsVolume V M F d × (d a ≡ c a → ⊥)
  lost_differs p =
      let k = data_columns V in
      let s = stripe_of V a in
      let i = column_of V a in
      let ls = stripe_below V L a la in
      let q = and_parts (not (is_some (columns_at V M F s i))) (lossy V M F s) p in
      let three : 2 < missing_at V M F s = ltb-true 2 (missing_at V M F s) q.1 in
      let free = free_column V.code L.lawful k (reaches V L) (columns_at V M F s) (stripe V c s) (content_stripe V L M F c f s ls) (f.fits s ls) i (column_below V L a la)
      (not-true _ q.0) (omega arith) in
      let d = free.0 in
      let at_a : spread s d a ≡ d i = cond-true _ _ _ (eq-eqb s s refl) in (
        spread s d,
        record {
          blocks = λ x lx. cond_both (eqb (x / k) s) (d (x % k)) (c x) Block (λ _. free.1 (x % k) (column_below V L x lx)) (λ _. f.blocks x lx);
          fits = spread_fits s d free.2;
        },
        λ h. free.3 (sym at_a ∙ h ∙ ap c (sym (block_at V L a))),
      )

module _ (V : Shape) (L : Valid V) (M : Members) (F : Frontiers) where
  given : (a len : ℕ) → read_outcome V M F a len ≡ Ok tt → (a < blocks V) × (read_lost V M F a ≡ false)
  given a len e =
      let g = answered_by (eqb len block_size) (ltb a (blocks V)) (read_lost V M F a) (with_loss 4 (loss_at V M F (stripe_of V a))) e in
      (ltb-true a (blocks V) g.0, g.1)

  shares : (a len : ℕ) → read_outcome V M F a len ≡ Ok tt → (c : ℕ → List ℕ) → FitsVolume V M F c → recovered_at V M F (stripe_of V a) (column_of V a) ≡ c a
  shares a len e c f = let g = given a len e in read_shares V L M F a g.0 c f g.1

  pub reading : Reading V M F
  reading = record {
    fits = λ N e c f. subst (λ (A : Members). FitsVolume V A F c) (sym e) f;
    hands = λ a old e c f. cond-true _ _ _ (ap is_ok e) ∙ shares a (length old) e c f;
    agree = λ a e c d fc fd. sym (shares a block_size e c fc) ∙ shares a block_size e d fd;
    answered = λ c f a la agree.
        ⊎_elim
        (λ (p : read_lost V M F a ≡ true). let d = lost_differs V L M F a la c f p in absurd (d.2 (agree d.0 c d.1 f)))
        (λ (p : read_lost V M F a ≡ false). cond-true _ _ _ (lt-ltb a (blocks V) la) ∙ cond-false _ _ _ p)
        (cases_Bool (read_lost V M F a));
    lost = λ c f a len e.
        let g = lost_by (eqb len block_size) (ltb a (blocks V)) (read_lost V M F a) (with_loss 4 (loss_at V M F (stripe_of V a))) e in
        lost_differs V L M F a (ltb-true a (blocks V) g.0) c f g.1;
  }

pub reads : Reads
reads V L M F = reading V L M F
