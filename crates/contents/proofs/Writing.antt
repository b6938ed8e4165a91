-- A content that fits before a write fits after it with the new block.
use Rattle.std.proofs.Common.{◌≡◌, ℕ, ◌+◌, ◌*◌, ◌/◌, ◌%◌, ◌<◌, Bool, true, false, cond, not, ◌&&◌, eqb, ltb, List, length, Ok, Err, Option, sym, refl, ap, ◌∙◌, subst, ap₂, inl, inr, ⊎_elim, arith}
use lib.Arith.{digits_div, digits_mod}
use Rattle.std.proofs.lemmas.Bool.{cases_eq, cond-true, cond-false, ltb-true, eqb-true, eq-eqb, ne_eqb, and_parts, not-true}
use Rattle.code.specs.Blocks.{Block, ◌⊕◌, block_size}
use Rattle.parity.specs.Stripe.{Content, Holds, Fits, column, put}
use Rattle.parity.specs.Theorems.{Kept}
use Rattle.parity.proofs.Columns.{kind, is_data, is_P, is_Q, column_data}
use Rattle.parity.proofs.Sums.{put_same, put_other, put_block}
use Rattle.parity.proofs.Changes.{deltas, writes as stripe_writes}
use Rattle.member.specs.Meaning.{Meaning}
use Rattle.contents.specs.declared.Loss.{Loss}
use Rattle.contents.specs.Columns.{Members, Frontiers, held}
use Rattle.contents.specs.Refusals.{plain, with_loss, taken}
use Rattle.contents.specs.Shapes.{Shape, Valid, Roomy, data_columns, blocks, stripe_of, column_of, columns_at, missing_at, lossy, loss_at, recovered_at, stripe, FitsVolume}
use Rattle.contents.specs.Answers.{write_takes, write_outcome}
use Rattle.contents.specs.Changes.{Put, due, new_P, new_Q, Stored, Spread}
use Rattle.contents.specs.Theorems.{CountsKept, Writing, Writes}
use Rattle.contents.proofs.Members.{held_same, due_holds, put_apart, put_count}
use Rattle.contents.proofs.Storing.{places_apart}
use Rattle.contents.proofs.Fitting.{fits_cong, column_block, gives, reaches, width, stripe_below, column_below, block_at, content_stripe, recovered_is}

-- ---- one store
module _ (V : Shape) (M : Members) (F : Frontiers) (s t : ℕ) (v : List ℕ) (A B : Members) (w : Stored V M F s t v A B) where
  store_count : CountsKept A B
  store_count j =
      ⊎_elim
      (λ (e : j ≡ V.place s t). subst (λ (x : ℕ). (B x).count ≡ (A x).count) (sym e) (put_count _ s v _ _ w.here))
      (λ (n : j ≡ V.place s t → ⊥). ap (λ (m : Meaning). m.count) (w.others j n))
      (cases_eq j (V.place s t))

  -- the columns of other stripes are kept
  store_apart : (u j : ℕ) → u < (A j).count → (u ≡ s → ⊥) → held B F u j ≡ held A F u j
  store_apart u j l n =
      ⊎_elim
      (λ (e : j ≡ V.place s t).
      subst (λ (x : ℕ). held B F u x ≡ held A F u x) (sym e) (put_apart A B F _ s u (V.place s t) v (subst (λ (x : ℕ). u < (A x).count) e l) n w.here))
      (λ (d : j ≡ V.place s t → ⊥). held_same A B F u j (w.others j d))
      (cases_eq j (V.place s t))

-- ---- the three stores of a write
module _ (V : Shape) (L : Valid V) (M : Members) (F : Frontiers) (room : Roomy V M) (s c : ℕ) (ls : s < V.stripes) (lc : c < data_columns V) (v : List ℕ) (N : Members)
    (w : Spread V M F s c v N) where
  abbrev k : ℕ
  k = data_columns V

  below : (t : ℕ) → t < k + 2 → t < V.slots
  below t l = let h = width V L (omega arith) in omega arith

  roomy : (t : ℕ) → t < k + 2 → s < (M (V.place s t)).count
  roomy t l = let r = room (V.place s t) ((L.placed s).slot_below t (below t l)) in omega arith

  -- distinct columns lie on distinct slots
  apart : (t u : ℕ) → t < k + 2 → u < k + 2 → (t ≡ u → ⊥) → V.place s t ≡ V.place s u → ⊥
  apart = places_apart V L s ls

  spread_count : CountsKept M N
  spread_count j =
      store_count V M F s (k + 1) _ w.after_P N w.Q j
      ∙ store_count V M F s k _ w.after_own w.after_P w.P j
      ∙ store_count V M F s c v M w.after_own w.own j

  spread_apart : (u j : ℕ) → u < (M j).count → (u ≡ s → ⊥) → held N F u j ≡ held M F u j
  spread_apart u j l n =
      let a = store_count V M F s c v M w.after_own w.own j in
      let b = store_count V M F s k _ w.after_own w.after_P w.P j in
      store_apart V M F s (k + 1) _ w.after_P N w.Q u j (omega arith) n
      ∙ store_apart V M F s k _ w.after_own w.after_P w.P u j (omega arith) n
      ∙ store_apart V M F s c v M w.after_own w.own u j l n

  -- a column that none of the three is, keeps its member
  spread_other : (t : ℕ) → t < k → (t ≡ c → ⊥) → N (V.place s t) ≡ M (V.place s t)
  spread_other t l n =
      w.Q.others (V.place s t) (apart t (k + 1) (omega arith) (omega arith) (λ e. omega arith))
      ∙ w.P.others (V.place s t) (apart t k (omega arith) (omega arith) (λ e. omega arith))
      ∙ w.own.others (V.place s t) (apart t c (omega arith) (omega arith) n)

  -- the column of a store that starts as the members did
  stored_holds : (t : ℕ) (x : List ℕ) (A B : Members) → t < k + 2 → length x ≡ block_size → Stored V M F s t x A B → A (V.place s t) ≡ M (V.place s t) → N (V.place s t) ≡ B (V.place s t)
      → Holds (held N F s (V.place s t)) x
  stored_holds t x A B l long st ea eb =
      let i = V.place s t in
      due_holds M N F s i x (roomy t l) long
      (subst (λ (n : Meaning). Put (due M F s i) s x (M i) n) (sym eb) (subst (λ (m : Meaning). Put (due M F s i) s x m (B i)) ea st.here))

  own_holds : length v ≡ block_size → Holds (held N F s (V.place s c)) v
  own_holds long =
      stored_holds c v M w.after_own (omega arith) long w.own refl
      (w.Q.others _ (apart c (k + 1) (omega arith) (omega arith) (λ e. omega arith)) ∙ w.P.others _ (apart c k (omega arith) (omega arith) (λ e. omega arith)))

  P_holds : length (new_P V M F s c v) ≡ block_size → Holds (held N F s (V.place s k)) (new_P V M F s c v)
  P_holds long =
      stored_holds k (new_P V M F s c v) w.after_own w.after_P (omega arith) long w.P
      (w.own.others _ (apart k c (omega arith) (omega arith) (λ e. omega arith)))
      (w.Q.others _ (apart k (k + 1) (omega arith) (omega arith) (λ e. omega arith)))

  Q_holds : length (new_Q V M F s c v) ≡ block_size → Holds (held N F s (V.place s (k + 1))) (new_Q V M F s c v)
  Q_holds long =
      stored_holds (k + 1) (new_Q V M F s c v) w.after_P N (omega arith) long w.Q
      (w.P.others _ (apart (k + 1) k (omega arith) (omega arith) (λ e. omega arith)) ∙ w.own.others _ (apart (k + 1) c (omega arith) (omega arith) (λ e. omega arith)))
      refl

  -- ---- the content d fitted before
  module _ (p : lossy V M F s ≡ false) (hv : Block v) (d : ℕ → List ℕ) (f : FitsVolume V M F d) where
    abbrev old : ℕ → List ℕ
    old = stripe V d s

    old_content : Content k old
    old_content = content_stripe V L M F d f s ls

    new_content : Content k (put old c v)
    new_content i l = put_block old c v hv i (old_content i l)

    new_block : (t : ℕ) → t < k + 2 → Block (column V.code k (put old c v) t)
    new_block = column_block V.code L.lawful k (reaches V L) (put old c v) new_content

    change : recovered_at V M F s c ≡ old c
    change = recovered_is V L M F d f s ls p c (omega arith) ∙ column_data V.code k old c lc

    P_is : new_P V M F s c v ≡ column V.code k (put old c v) k
    P_is =
        ap₂ (λ (x y : List ℕ). x ⊕ (y ⊕ v)) (recovered_is V L M F d f s ls p k (omega arith)) change
        ∙ sym (deltas V.code L.lawful k (reaches V L) old old_content c lc v hv).0

    Q_is : new_Q V M F s c v ≡ column V.code k (put old c v) (k + 1)
    Q_is =
        ap₂ (λ (x y : List ℕ). x ⊕ V.code.mix c (y ⊕ v)) (recovered_is V L M F d f s ls p (k + 1) (omega arith)) change
        ∙ sym (deltas V.code L.lawful k (reaches V L) old old_content c lc v hv).1

    kept : (t : ℕ) → t < k + 2 → Kept V.code k (put old c v) c (columns_at V M F s t) (columns_at V N F s t) t
    kept t l =
        elim (kind k t l) [
          | is_data m ↦ ⊎_elim
              (λ (e : t ≡ c). inl (subst (λ (x : ℕ). Holds (held N F s (V.place s x)) (column V.code k (put old c v) x)) (sym e)
              (subst (λ (b : List ℕ). Holds (held N F s (V.place s c)) b) (sym (column_data V.code k (put old c v) c lc ∙ put_same old c v)) (own_holds hv.long))))
              (λ (n : t ≡ c → ⊥). inr (m, n, held_same M N F s (V.place s t) (spread_other t m n)))
              (cases_eq t c)
          | is_P e ↦ inl (subst (λ (x : ℕ). Holds (held N F s (V.place s x)) (column V.code k (put old c v) x)) (sym e)
              (subst (λ (b : List ℕ). Holds (held N F s (V.place s k)) b) P_is (P_holds (ap length P_is ∙ (new_block k (omega arith)).long))))
          | is_Q e ↦ inl (subst (λ (x : ℕ). Holds (held N F s (V.place s x)) (column V.code k (put old c v) x)) (sym e)
              (subst (λ (b : List ℕ). Holds (held N F s (V.place s (k + 1))) b) Q_is (Q_holds (ap length Q_is ∙ (new_block (k + 1) (omega arith)).long))))
        ]

    pub own_fits : Fits V.code k (put old c v) (columns_at V N F s)
    own_fits = stripe_writes V.code k (columns_at V M F s) (columns_at V N F s) old c v (f.fits s ls) kept

-- ---- a taken write
module _ (V : Shape) (L : Valid V) (M : Members) (F : Frontiers) (room : Roomy V M) (a : ℕ) (la : a < blocks V) (v : List ℕ) (hv : Block v) (N : Members)
    (p : lossy V M F (stripe_of V a) ≡ false) (w : Spread V M F (stripe_of V a) (column_of V a) v N) (d : ℕ → List ℕ) (f : FitsVolume V M F d) where
  abbrev s : ℕ
  s = stripe_of V a

  abbrev c : ℕ
  c = column_of V a

  -- the changed stripe of the content is its stripe changed
  own_stripe : (i : ℕ) → i < data_columns V → put (stripe V d s) c v i ≡ stripe V (put d a v) s i
  own_stripe i l =
      let at = block_at V L a in
      ⊎_elim
      (λ (e : i ≡ c). cond-true _ _ _ (eq-eqb i c e) ∙ sym (cond-true _ _ _ (eq-eqb (s * data_columns V + i) a (ap (λ (x : ℕ). s * data_columns V + x) e ∙ at))))
      (λ (n : i ≡ c → ⊥). cond-false _ _ _ (ne_eqb i c n) ∙ sym (cond-false _ _ _ (ne_eqb (s * data_columns V + i) a (λ e. n (sym (digits_mod s l) ∙ ap (λ (x : ℕ). x % data_columns V) e)))))
      (cases_eq i c)

  other_stripe : (u : ℕ) → (u ≡ s → ⊥) → (i : ℕ) → i < data_columns V → stripe V d u i ≡ stripe V (put d a v) u i
  other_stripe u n i l = sym (put_other d a v (u * data_columns V + i) (λ e. n (sym (digits_div u l) ∙ ap (λ (x : ℕ). x / data_columns V) e)))

  pub write_fits : FitsVolume V N F (put d a v)
  write_fits = record {
    blocks = λ x lx. put_block d a v hv x (f.blocks x lx);
    fits = λ u lu.
        ⊎_elim
        (λ (e : u ≡ s).
        subst (λ (x : ℕ). Fits V.code (data_columns V) (stripe V (put d a v) x) (columns_at V N F x)) (sym e)
        (fits_cong V.code (data_columns V) (put (stripe V d s) c v) (stripe V (put d a v) s) (columns_at V N F s) own_stripe
        (own_fits V L M F room s c (stripe_below V L a la) (column_below V L a la) v N w p hv d f)))
        (λ (n : u ≡ s → ⊥).
        fits_cong V.code (data_columns V) (stripe V d u) (stripe V (put d a v) u) (columns_at V N F u) (other_stripe u n)
        (λ t l.
        let lt : t < V.slots = (let h = width V L (omega arith) in omega arith) in
        let j = V.place u t in
        let r = room j ((L.placed u).slot_below t lt) in
        subst (λ (o : Option (List ℕ)). Holds o (gives V d u t))
        (sym (spread_apart V L M F room s c (stripe_below V L a la) (column_below V L a la) v N w u j (omega arith) n)) (f.fits u lu t l)))
        (cases_eq u s);
  }

-- ---- taken unless refused with 2, 3 or 4
taken_by : (sized below lost torn : Bool) (l m : Loss) (n : ℕ)
    → taken {U = ℕ} (cond sized (cond below (cond lost (Err (with_loss 4 l)) (cond torn (Err (with_loss 5 m)) (Ok n))) (Err (plain 2))) (Err (plain 3))) ≡ (sized && (below && not lost))
taken_by true true true torn l m n = refl
taken_by true true false true l m n = refl
taken_by true true false false l m n = refl
taken_by true false lost torn l m n = refl
taken_by false below lost torn l m n = refl

pub writes : Writes
writes V L M F room a v N bytes h = go (write_takes V M F a (length v)) refl
  where
    tells : taken (write_outcome V M F a (length v) N) ≡ write_takes V M F a (length v)
    tells =
        taken_by (eqb (length v) block_size) (ltb a (blocks V)) (lossy V M F (stripe_of V a)) (lossy V N F (stripe_of V a)) (loss_at V M F (stripe_of V a)) (loss_at V N F (stripe_of V a))
        (missing_at V N F (stripe_of V a))

    go : (x : Bool) → write_takes V M F a (length v) ≡ x → Writing V M F a v N
    go true e =
        let w = h.taken e in
        let p = and_parts (eqb (length v) block_size) (ltb a (blocks V) && not (lossy V M F (stripe_of V a))) e in
        let q = and_parts (ltb a (blocks V)) (not (lossy V M F (stripe_of V a))) p.1 in
        let hv : Block v = record { long = eqb-true (length v) block_size p.0; bytes = bytes.bytes } in
        let la : a < blocks V = ltb-true a (blocks V) q.0 in
        record {
          takes = tells;
          fits = λ c f. subst (λ (d : ℕ → List ℕ). FitsVolume V N F d) (sym (cond-true _ _ _ e)) (write_fits V L M F room a la v hv N (not-true _ q.1) w c f);
          counts = spread_count V L M F room (stripe_of V a) (column_of V a) (stripe_below V L a la) (column_below V L a la) v N w;
        }
    go false e =
        let same = h.refused e in
        record {
          takes = tells;
          fits = λ c f. subst (λ (d : ℕ → List ℕ). FitsVolume V N F d) (sym (cond-false _ _ _ e)) (subst (λ (A : Members). FitsVolume V A F c) (sym same) f);
          counts = λ i. ap (λ (A : Members). (A i).count) same;
        }
