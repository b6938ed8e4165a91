-- What fits goes on fitting over replacements and rebuilds.
use Rattle.std.proofs.Common.{◌≡◌, ℕ, ◌+◌, ◌<◌, ◌≤◌, Bool, true, false, cond, not, ◌&&◌, ltb, ◌⊎◌, List, length, is_ok, Some, None, Err, Option, Result, sym, refl, ap, ◌∙◌, subst, ap₂, inl, inr, ⊎_elim, arith}
use Rattle.std.proofs.lemmas.Bool.{cases_eq, cond_both, cond-true, cond-false, eq-eqb, ne_eqb, ltb-true, ltb-false, lt-ltb, le-ltb, and_parts, not-true, true≢false}
use Rattle.code.specs.Blocks.{block_size}
use Rattle.parity.specs.Stripe.{Holds}
use Rattle.member.specs.Faults as member
use Rattle.member.specs.Meaning.{Meaning, write_refusal}
use Rattle.member.specs.Changes.{Written, Renewed}
use Rattle.contents.specs.declared.SlotState.{SlotState}
use Rattle.contents.specs.declared.SlotState.TheVariants.{Idle, Open}
use Rattle.contents.specs.declared.SlotEvent.TheVariants.{Replaced, Opened, Stepped, Closed}
use Rattle.contents.specs.declared.SlotRecord.{SlotRecord}
use Rattle.contents.specs.Columns.{Members, Frontiers, held}
use Rattle.contents.specs.Refusals.{Told, plain, with_loss, answering, refusal_number}
use Rattle.contents.specs.Records.{Records, frontiers, is_open, idle_at, open_at, with_record, answer_by, after_by}
use Rattle.contents.specs.Shapes.{Shape, Valid, Roomy, data_columns, lossy, loss_at, recovered_at, FitsVolume}
use Rattle.contents.specs.Changes.{Moved}
use Rattle.contents.specs.Theorems.{CountsKept, TellsLoss}
use Rattle.contents.specs.Rebuilds.{event_records, open_here, rebuilt, step_outcome, step_takes, ReplaceChanges, StepChanges, FitsOver, Replaces, Opens, Closes, Rebuilds, RebuildLosses}
use Rattle.contents.proofs.Statuses.{shown, held_is}
use Rattle.contents.proofs.Members.{holds_as, holds_none, written_count, written_gone, written_others, written_holds}
use Rattle.contents.proofs.Fitting.{gives, gives_block, width, recovered_is, by_slot, from_slots}
use Rattle.contents.proofs.Losing.{tells}

-- ---- one slot's record
with_same : (R : Records) (i : ℕ) (x : SlotRecord) (j : ℕ) → j ≡ i → with_record R i x j ≡ x
with_same R i x j e = cond-true _ _ _ (eq-eqb j i e)

with_other : (R : Records) (i : ℕ) (x : SlotRecord) (j : ℕ) → (j ≡ i → ⊥) → with_record R i x j ≡ R j
with_other R i x j n = cond-false _ _ _ (ne_eqb j i n)

-- a record that keeps its frontier changes no frontier
pub stays : (R : Records) (i : ℕ) (x : SlotRecord) (b : Bool) → x.frontier ≡ (R i).frontier → (j : ℕ) → (cond b (with_record R i x) R j).frontier ≡ (R j).frontier
stays R i x true e j =
    ⊎_elim
    (λ (d : j ≡ i). ap (λ (r : SlotRecord). r.frontier) (with_same R i x j d) ∙ e ∙ ap (λ (u : ℕ). (R u).frontier) (sym d))
    (λ (n : j ≡ i → ⊥). ap (λ (r : SlotRecord). r.frontier) (with_other R i x j n))
    (cases_eq j i)
stays R i x false e j = refl

-- ---- columns
held_with : (M N : Members) (F G : Frontiers) (s j : ℕ) → N j ≡ M j → G j ≡ F j → held N G s j ≡ held M F s j
held_with M N F G s j e d =
    held_is N G s j ∙ ap₂ (λ (m : Meaning) (f : ℕ). shown m.gone (ltb s f) (m.block s)) e d ∙ sym (held_is M F s j)

held_behind : (N : Members) (G : Frontiers) (s j : ℕ) → G j ≤ s → held N G s j ≡ None
held_behind N G s j l = held_is N G s j ∙ none (N j).gone (ltb s (G j)) ((N j).block s) (le-ltb s (G j) l)
  where
    none : (g b : Bool) (o : Option (List ℕ)) → b ≡ false → shown g b o ≡ None
    none true b o e = refl
    none false b o e = cond-false _ _ _ e

module _ (V : Shape) (L : Valid V) where
  -- each slot shows what it showed, or what the content gives
  kept_fits : (M N : Members) (F G : Frontiers) (c : ℕ → List ℕ) → FitsVolume V M F c
      → ((s j : ℕ) → s < V.stripes → j < V.slots → (held N G s j ≡ held M F s j) ⊎ Holds (held N G s j) (gives V c s (V.back s j))) → FitsVolume V N G c
  kept_fits M N F G c f h = record {
    blocks = f.blocks;
    fits = λ s ls. from_slots V L N G c s ls (λ j l.
        ⊎_elim
        (λ (e : held N G s j ≡ held M F s j). holds_as (held N G s j) (held M F s j) _ e (by_slot V L M F c f s ls j l))
        (λ (x : Holds (held N G s j) (gives V c s (V.back s j))). x)
        (h s j ls l));
  }

  -- nothing but records that keep their frontiers
  pub frontiers_kept : (M N : Members) (F G : Frontiers) → N ≡ M → ((j : ℕ) → G j ≡ F j) → (c : ℕ → List ℕ) → FitsVolume V M F c → FitsVolume V N G c
  frontiers_kept M N F G e h c f = kept_fits M N F G c f (λ s j ls l. inl (held_with M N F G s j (ap (λ (A : Members). A j) e) (h j)))

-- ---- open and close: a rebuild that begins or ends leaves the frontier where it is
pub open_stays : (S : ℕ) (x : SlotState) (f : ℕ) → (after_by S x f Opened).frontier ≡ f
open_stays S Idle f = cond_both (ltb f S) (open_at f) (idle_at f) (λ (r : SlotRecord). r.frontier ≡ f) (λ _. refl) (λ _. refl)
open_stays S Open f = refl

pub close_stays : (S : ℕ) (x : SlotState) (f : ℕ) → (after_by S x f Closed).frontier ≡ f
close_stays S Idle f = refl
close_stays S Open f = refl

pub opens : Opens
opens V L M R i = frontiers_kept V L M M (frontiers R) _ refl (stays R i _ (ltb i V.slots) (open_stays V.stripes (R i).state (R i).frontier))

pub closes : Closes
closes V L M R i = frontiers_kept V L M M (frontiers R) _ refl (stays R i _ (ltb i V.slots) (close_stays V.stripes (R i).state (R i).frontier))

-- ---- replace
module _ (V : Shape) (L : Valid V) (M : Members) (R : Records) (i : ℕ) (N : Members) (Q : Records) (h : ReplaceChanges V M R i N Q) where
  abbrev answer : Bool → SlotState → Result Unit Told
  answer b x = answering tt (cond b (answer_by V.stripes x (R i).frontier Replaced) (Err (plain 2)))

  frontier_by : (b : Bool) (x : SlotState) → ltb i V.slots ≡ b → (R i).state ≡ x → (j : ℕ)
      → (Q j).frontier ≡ (cond b (with_record R i (after_by V.stripes x (R i).frontier Replaced)) R j).frontier
  frontier_by b x eb ex j =
      ap (λ (P : Records). (P j).frontier) h.records
      ∙ ap₂ (λ (y : Bool) (z : SlotState). (cond y (with_record R i (after_by V.stripes z (R i).frontier Replaced)) R j).frontier) eb ex

  refused : (b : Bool) (x : SlotState) → ltb i V.slots ≡ b → (R i).state ≡ x → is_ok (answer b x) ≡ false
      → (after_by V.stripes x (R i).frontier Replaced).frontier ≡ (R i).frontier → FitsOver V M R N Q × CountsKept M N
  refused b x eb ex err same =
      let left : N ≡ M = h.refused (ap₂ (λ (y : Bool) (z : SlotState). is_ok (answer y z)) eb ex ∙ err) in (
        frontiers_kept V L M N (frontiers R) (frontiers Q) left (λ j. frontier_by b x eb ex j ∙ stays R i _ b same j),
        λ j. ap (λ (A : Members). (A j).count) left,
      )

  replaced : ltb i V.slots ≡ true → (R i).state ≡ Idle → FitsOver V M R N Q × CountsKept M N
  replaced eb ex =
      let w : Moved Renewed i M N = h.taken (ap₂ (λ (y : Bool) (z : SlotState). is_ok (answer y z)) eb ex) in (
        (λ c f. kept_fits V L M N (frontiers R) (frontiers Q) c f (λ s j ls l.
            ⊎_elim
            (λ (e : j ≡ i).
            let z : (Q j).frontier ≡ 0 = frontier_by true Idle eb ex j ∙ ap (λ (r : SlotRecord). r.frontier) (with_same R i (idle_at 0) j e) in
            inr (holds_none _ _ (held_behind N (frontiers Q) s j (omega (arith, z)))))
            (λ (n : j ≡ i → ⊥).
            inl (held_with M N (frontiers R) (frontiers Q) s j (w.others j n)
            (frontier_by true Idle eb ex j ∙ ap (λ (r : SlotRecord). r.frontier) (with_other R i (idle_at 0) j n))))
            (cases_eq j i))),
        λ j.
            ⊎_elim
            (λ (e : j ≡ i). subst (λ (x : ℕ). (N x).count ≡ (M x).count) (sym e) w.here.level.count)
            (λ (n : j ≡ i → ⊥). ap (λ (m : Meaning). m.count) (w.others j n))
            (cases_eq j i),
      )

  replace_keeps : (b : Bool) (x : SlotState) → ltb i V.slots ≡ b → (R i).state ≡ x → FitsOver V M R N Q × CountsKept M N
  replace_keeps true Idle eb ex = replaced eb ex
  replace_keeps true Open eb ex = refused true Open eb ex refl refl
  replace_keeps false Idle eb ex =
      let left : N ≡ M = h.refused (ap₂ (λ (y : Bool) (z : SlotState). is_ok (answer y z)) eb ex) in (
        frontiers_kept V L M N (frontiers R) (frontiers Q) left (λ j. frontier_by false Idle eb ex j),
        λ j. ap (λ (A : Members). (A j).count) left,
      )
  replace_keeps false Open eb ex = refused false Open eb ex refl refl

pub replaces : Replaces
replaces V L M R i N Q h = replace_keeps V L M R i N Q h (ltb i V.slots) (R i).state refl refl

-- ---- step
module _ (V : Shape) (L : Valid V) (M : Members) (R : Records) (room : Roomy V M) (i : ℕ) (N : Members) (Q : Records) (h : StepChanges V M R i N Q) where
  abbrev f : ℕ
  f = (R i).frontier

  -- a step's answer by its checks and the fault of its write
  abbrev answer_of : Bool → Bool → Bool → Option member.Refusal → Result ℕ Told
  answer_of here below lost o = cond here (cond below (cond lost (Err (with_loss 4 (loss_at V M (frontiers R) f))) (rebuilt o f)) (Err (plain 7))) (Err (plain 8))

  not_taken : (here below lost : Bool) (o : Option member.Refusal) → (here && (below && not lost)) ≡ false → is_ok (answer_of here below lost o) ≡ false
  not_taken true true true o e = refl
  not_taken true true false o e = absurd (true≢false e)
  not_taken true false lost o e = refl
  not_taken false left lost o e = refl

  -- a step that meets a check changes nothing
  step_refused : step_takes V M R i ≡ false → FitsOver V M R N Q × CountsKept M N
  step_refused e =
      let same : N ≡ M = h.refused e in
      let q : Q ≡ R = h.records ∙ cond-false _ _ _ (not_taken (open_here V R i) (ltb f V.stripes) (lossy V M (frontiers R) f) (write_refusal (M i) f block_size) e) in (
        frontiers_kept V L M N (frontiers R) (frontiers Q) same (λ j. ap (λ (P : Records). (P j).frontier) q),
        λ j. ap (λ (A : Members). (A j).count) same,
      )

  module _ (li : i < V.slots) (eo : is_open (R i).state ≡ true) (lf : f < V.stripes) (el : lossy V M (frontiers R) f ≡ false)
      (w : Moved (λ m n. Written m f (recovered_at V M (frontiers R) f (V.back f i)) n) i M N) where
    state_open : (x : SlotState) → is_open x ≡ true → x ≡ Open
    state_open Idle e = absurd (true≢false (sym e))
    state_open Open e = refl

    stepped : event_records V R i Stepped ≡ with_record R i (open_at (f + 1))
    stepped =
        cond-true _ _ _ (lt-ltb i V.slots li)
        ∙ ap (λ (x : SlotState). with_record R i (after_by V.stripes x f Stepped)) (state_open (R i).state eo)
        ∙ ap (λ (b : Bool). with_record R i (cond b (open_at (f + 1)) (open_at f))) (lt-ltb f V.stripes lf)

    answer_is : step_outcome V M R i ≡ rebuilt (write_refusal (M i) f block_size) f
    answer_is =
        cond-true _ _ _ (ap₂ ◌&&◌ (lt-ltb i V.slots li) eo) ∙ cond-true _ _ _ (lt-ltb f V.stripes lf) ∙ cond-false _ _ _ el

    -- the record of slot i goes one further, or stays
    after : (Q ≡ with_record R i (open_at (f + 1))) ⊎ (Q ≡ R)
    after = go (write_refusal (M i) f block_size) refl
      where
        go : (o : Option member.Refusal) → write_refusal (M i) f block_size ≡ o → (Q ≡ with_record R i (open_at (f + 1))) ⊎ (Q ≡ R)
        go None e = inl (h.records ∙ cond-true _ _ _ (ap is_ok (answer_is ∙ ap (λ (o : Option member.Refusal). rebuilt o f) e)) ∙ stepped)
        go (Some x) e = inr (h.records ∙ cond-false _ _ _ (ap is_ok (answer_is ∙ ap (λ (o : Option member.Refusal). rebuilt o f) e)))

    others_stay : (j : ℕ) → (j ≡ i → ⊥) → (Q j).frontier ≡ (R j).frontier
    others_stay j n =
        ⊎_elim
        (λ (q : Q ≡ with_record R i (open_at (f + 1))). ap (λ (P : Records). (P j).frontier) q ∙ ap (λ (r : SlotRecord). r.frontier) (with_other R i (open_at (f + 1)) j n))
        (λ (q : Q ≡ R). ap (λ (P : Records). (P j).frontier) q)
        after

    -- every other stripe stays on its side of the frontier
    below_stays : (s : ℕ) → (s ≡ f → ⊥) → ltb s (Q i).frontier ≡ ltb s f
    below_stays s n =
        ⊎_elim
        (λ (q : Q ≡ with_record R i (open_at (f + 1))).
        ap (λ (P : Records). ltb s (P i).frontier) q ∙ ap (λ (r : SlotRecord). ltb s r.frontier) (with_same R i (open_at (f + 1)) i refl) ∙ one_more (ltb s f) refl)
        (λ (q : Q ≡ R). ap (λ (P : Records). ltb s (P i).frontier) q)
        after
      where
        one_more : (b : Bool) → ltb s f ≡ b → ltb s (f + 1) ≡ ltb s f
        one_more true e = let l = ltb-true s f e in lt-ltb s (f + 1) (omega arith) ∙ sym e
        one_more false e = let l = ltb-false s f e in le-ltb s (f + 1) (omega arith) ∙ sym e

    step_fits : FitsOver V M R N Q
    step_fits c fc =
        let t = V.back f i in
        let lt : t < data_columns V + 2 = (let x = (L.placed f).column_below i li in let y = width V L (omega arith) in omega arith) in
        let is : recovered_at V M (frontiers R) f t ≡ gives V c f t = recovered_is V L M (frontiers R) c fc f lf el t lt in
        let long : length (recovered_at V M (frontiers R) f t) ≡ block_size = ap length is ∙ (gives_block V L M (frontiers R) c fc f lf t lt).long in
        kept_fits V L M N (frontiers R) (frontiers Q) c fc (λ s j ls l.
        ⊎_elim
        (λ (e : j ≡ i).
        subst (λ (y : ℕ). (held N (frontiers Q) s y ≡ held M (frontiers R) s y) ⊎ Holds (held N (frontiers Q) s y) (gives V c s (V.back s y))) (sym e)
        (⊎_elim
        (λ (d : s ≡ f).
        inr (subst (λ (x : ℕ). Holds (held N (frontiers Q) x i) (gives V c x (V.back x i))) (sym d)
        (subst (λ (v : List ℕ). Holds (held N (frontiers Q) f i) v) is
        (written_holds M N (frontiers Q) f i _ (let r = room i li in omega arith) long w.here))))
        (λ (n : s ≡ f → ⊥).
        inl (held_is N (frontiers Q) s i
        ∙ ap₂ (λ (g : Bool) (b : Bool). shown g b ((N i).block s)) (written_gone (M i) f _ (N i) w.here) (below_stays s n)
        ∙ ap (shown (M i).gone (ltb s f)) (written_others (M i) f _ (N i) w.here s (let r = room i li in omega arith) n)
        ∙ sym (held_is M (frontiers R) s i)))
        (cases_eq s f)))
        (λ (n : j ≡ i → ⊥). inl (held_with M N (frontiers R) (frontiers Q) s j (w.others j n) (others_stay j n)))
        (cases_eq j i))

    step_counts : CountsKept M N
    step_counts j =
        ⊎_elim
        (λ (e : j ≡ i). subst (λ (x : ℕ). (N x).count ≡ (M x).count) (sym e) (written_count (M i) f _ (N i) w.here))
        (λ (n : j ≡ i → ⊥). ap (λ (m : Meaning). m.count) (w.others j n))
        (cases_eq j i)

pub rebuilds : Rebuilds
rebuilds V L M R room i N Q h = go (step_takes V M R i) refl
  where
    go : (b : Bool) → step_takes V M R i ≡ b → FitsOver V M R N Q × CountsKept M N
    go true e =
        let p = and_parts (open_here V R i) (ltb (R i).frontier V.stripes && not (lossy V M (frontiers R) (R i).frontier)) e in
        let o = and_parts (ltb i V.slots) (is_open (R i).state) p.0 in
        let q = and_parts (ltb (R i).frontier V.stripes) (not (lossy V M (frontiers R) (R i).frontier)) p.1 in
        let li : i < V.slots = ltb-true i V.slots o.0 in
        let lf : (R i).frontier < V.stripes = ltb-true (R i).frontier V.stripes q.0 in
        let el : lossy V M (frontiers R) (R i).frontier ≡ false = not-true _ q.1 in
        (step_fits V L M R room i N Q h li o.1 lf el (h.taken e), step_counts V L M R room i N Q h li o.1 lf el (h.taken e))
    go false e = step_refused V L M R room i N Q h e

-- ---- losses
not_lost : (o : Option member.Refusal) (f : ℕ) → ◌≡◌ {A = ℕ} (refusal_number (rebuilt o f)) 4 → ⊥
not_lost None f e = omega arith
not_lost (Some x) f e = omega arith

pub rebuild_losses : RebuildLosses
rebuild_losses V M R i eo lf =
    let f = (R i).frontier in
    subst (λ (r : Result ℕ Told). TellsLoss V M (frontiers R) f r)
    (sym (cond-true _ _ _ eo ∙ cond-true _ _ _ (lt-ltb f V.stripes lf)))
    (tells V M (frontiers R) f (rebuilt (write_refusal (M i) f block_size) f) (not_lost (write_refusal (M i) f block_size) f))
