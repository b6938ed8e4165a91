-- Every call has an answer and a state after it, since members can do what each call allows them.
use Rattle.std.proofs.Common.{◌≡◌, ℕ, zero, suc, ◌+◌, Bool, true, false, cond, eqb, List, [], ◌∷◌, ◌++◌, map, length, is_ok, Some, None, Option, sym, refl, ap, ◌∙◌, subst, ⊎_elim, add-one, arith}
use Rattle.std.proofs.lemmas.List.{append-nil, append_assoc}
use Rattle.std.proofs.lemmas.Bool.{true≢false, false≢true, cases_eq, cond-true, cond-false, eq-eqb, ne_eqb}
use Rattle.code.specs.Blocks.{zeros}
use Rattle.member.specs.Faults.{Origin, Refusal}
use Rattle.member.specs.Meaning.{Meaning, write_refusal}
use Rattle.member.specs.Changes.{Level, Kept, Written, Ticked, Renewed}
use Rattle.contents.specs.declared.SlotEvent.TheVariants.{Replaced, Opened, Stepped, Closed}
use Rattle.contents.specs.Columns.{Members, Frontiers, status, is_unreadable}
use Rattle.contents.specs.Records.{Records, frontiers, idle_at}
use Rattle.contents.specs.Shapes.{Shape, data_columns, stripe_of, column_of, recovered_at}
use Rattle.contents.specs.Answers.{write_takes, scrub_takes}
use Rattle.contents.specs.Changes.{Moved, Steps, Put, due, new_P, new_Q, Stored, Spread, WriteChanges, Scrubbed, ScrubChanges, TickChanges, FormatChanges}
use Rattle.contents.specs.Rebuilds.{event_records, replace_outcome, step_outcome, step_takes, ReplaceChanges, StepChanges}
use Rattle.contents.proofs.Walks.{steps_none, steps_more}
use Rattle.history.specs.Calls.{State, Call, Answer, answer_to, Changes, Makes}
use Rattle.history.specs.Calls.Call.{tick, read, write, scrub, replace, open_slot, step, close, margin}
use Rattle.history.specs.History.{Event, AllGiven, CanFormat, SomeFormatted, AlwaysAnswers, EveryCalls}
use Rattle.history.specs.History as history
use Rattle.history.proofs.Logs.{kept_from_format, kept_by_calls}

-- ---- one member

-- o in the place of block b
abbrev with_block : Meaning → ℕ → Option (List ℕ) → Meaning
with_block m b o = record {
  count = m.count;
  height = m.height;
  gone = m.gone;
  block = λ u. cond (eqb u b) o (m.block u);
  writable = m.writable;
  gone_origin = m.gone_origin;
  unreadable_origin = m.unreadable_origin;
  unwritable_origin = m.unwritable_origin;
}

block_same : (m : Meaning) (b : ℕ) (o : Option (List ℕ)) → (with_block m b o).block b ≡ o
block_same m b o = cond-true _ _ _ (eq-eqb b b refl)

block_other : (m : Meaning) (b : ℕ) (o : Option (List ℕ)) (k : ℕ) → (k ≡ b → ⊥) → Kept m (with_block m b o) k
block_other m b o k n = record { block = cond-false _ _ _ (ne_eqb k b n); gone_origin = refl; unreadable_origin = refl; unwritable_origin = refl }

level : (m n : Meaning) → n.count ≡ m.count → n.height ≡ m.height → Level m n
level m n c h = record { count = c; height = h }

written_by : (m : Meaning) (b : ℕ) (v : List ℕ) → (n : Meaning) × Written m b v n
written_by m b v = go (write_refusal m b (length v)) refl
  where
    go : (o : Option Refusal) → write_refusal m b (length v) ≡ o → (n : Meaning) × Written m b v n
    go None e = (
      with_block m b (Some v),
      record {
        accepted = λ _. record { level = level m _ refl refl; gone = refl; here = block_same m b (Some v); others = λ k _ n. block_other m b (Some v) k n; costs = λ k _ w. w };
        unwritable = λ f q _. absurd cc;
        refused = λ f q _. absurd cc;
      },
    )
    go (Some x) e =
        ⊎_elim
        (λ (three : x.cause ≡ 3). (
          with_block m b None,
          record {
            accepted = λ q. absurd cc;
            unwritable = λ f q _. record {
              level = level m _ refl refl;
              gone = refl;
              here = block_same m b None;
              again = refl;
              others = λ k _ n. block_other m b None k n;
              writable = λ k _. refl;
            };
            refused = λ f q n. let d : f ≡ x = cc in absurd (n (ap (λ (y : Refusal). y.cause) d ∙ three));
          },
        ))
        (λ (other : x.cause ≡ 3 → ⊥). (
          m,
          record {
            accepted = λ q. absurd cc;
            unwritable = λ f q t. let d : x ≡ f = cc in absurd (other (ap (λ (y : Refusal). y.cause) d ∙ t));
            refused = λ f q n. refl;
          },
        ))
        (cases_eq x.cause 3)

put_by : (d : Bool) (s : ℕ) (v : List ℕ) (m : Meaning) → (n : Meaning) × Put d s v m n
put_by true s v m = let w = written_by m s v in (w.0, record { written = λ _. w.1; kept = λ e. absurd (true≢false e) })
put_by false s v m = (m, record { written = λ e. absurd (false≢true e); kept = λ _. refl })

ticked_by : (m : Meaning) → (n : Meaning) × Ticked m n
ticked_by m = (m, record { level = level m m refl refl; gone = λ e. e; blocks = λ k v _ e. e })

abbrev present : Meaning → Meaning
present m = record {
  count = m.count;
  height = m.height;
  gone = false;
  block = m.block;
  writable = m.writable;
  gone_origin = m.gone_origin;
  unreadable_origin = m.unreadable_origin;
  unwritable_origin = m.unwritable_origin;
}

renewed_by : (m : Meaning) → (n : Meaning) × Renewed m n
renewed_by m = (present m, record { level = level m _ refl refl; present = refl })

-- ---- the members

moved_by : (R : Meaning → Meaning → Type 0) → ((m : Meaning) → (n : Meaning) × R m n) → (i : ℕ) (M : Members) → (N : Members) × Moved R i M N
moved_by R h i M =
    let n = h (M i) in (
      (λ j. cond (eqb j i) n.0 (M j)),
      record { here = subst (R (M i)) (sym (cond-true _ _ _ (eq-eqb i i refl))) n.1; others = λ j d. cond-false _ _ _ (ne_eqb j i d) },
    )

walked_by : (n : ℕ) (R : ℕ → Members → Members → Type 0) → ((i : ℕ) (M : Members) → (N : Members) × R i M N) → (M : Members) → (N : Members) × Steps n R M N
walked_by zero R h M = (M, steps_none R M)
walked_by (suc n) R h M =
    let w = walked_by n R h M in
    let o = h n w.0 in
    (o.0, subst (λ (x : ℕ). Steps x R M o.0) (add-one n) (steps_more R n M w.0 o.0 w.1 o.1))

-- a call that is taken or changes nothing
either : (b : Bool) (P : Members → Type 0) (M : Members) → (N : Members) × P N → (N : Members) × (b ≡ true → P N) × (b ≡ false → N ≡ M)
either true P M p = (p.0, (λ _. p.1), λ e. absurd (true≢false e))
either false P M p = (M, (λ e. absurd (false≢true e)), λ _. refl)

-- ---- the calls
module _ (V : Shape) (M : Members) where
  zeroed_by : (N : Members) × FormatChanges V M N
  zeroed_by = walked_by V.stripes _ (λ s A. walked_by V.slots _ (λ i B. moved_by (λ m n. Written m s zeros n) (λ m. written_by m s zeros) i B) A) M

  tick_by : (N : Members) × TickChanges V M N
  tick_by = walked_by V.slots _ (λ i A. moved_by Ticked ticked_by i A) M

  module _ (F : Frontiers) where
    stored_by : (s t : ℕ) (v : List ℕ) (A : Members) → (B : Members) × Stored V M F s t v A B
    stored_by s t v A = moved_by (Put (due M F s (V.place s t)) s v) (put_by (due M F s (V.place s t)) s v) (V.place s t) A

    spread_by : (s c : ℕ) (v : List ℕ) → (N : Members) × Spread V M F s c v N
    spread_by s c v =
        let x = stored_by s c v M in
        let y = stored_by s (data_columns V) (new_P V M F s c v) x.0 in
        let z = stored_by s (data_columns V + 1) (new_Q V M F s c v) y.0 in
        (z.0, record { after_own = x.0; after_P = y.0; own = x.1; P = y.1; Q = z.1 })

    write_by : (a : ℕ) (v : List ℕ) → (N : Members) × WriteChanges V M F a v N
    write_by a v =
        let e = either (write_takes V M F a (length v)) (Spread V M F (stripe_of V a) (column_of V a) v) M (spread_by (stripe_of V a) (column_of V a) v) in
        (e.0, record { taken = e.1; refused = e.2 })

    scrub_by : (s : ℕ) → (N : Members) × ScrubChanges V M F s N
    scrub_by s =
        let e = either (scrub_takes V M F s) (Scrubbed V M F s) M
        (walked_by V.slots _ (λ i A. moved_by (Put (is_unreadable (status M F s i)) s (recovered_at V M F s (V.back s i))) (put_by (is_unreadable (status M F s i)) s (recovered_at V M F s (V.back s i))) i A) M) in
        (e.0, record { taken = e.1; refused = e.2 })

  module _ (R : Records) (i : ℕ) where
    replace_by : (N : Members) × (Q : Records) × ReplaceChanges V M R i N Q
    replace_by =
        let e = either (is_ok (replace_outcome V R i)) (Moved Renewed i M) M (moved_by Renewed renewed_by i M) in
        (e.0, event_records V R i Replaced, record { taken = e.1; refused = e.2; records = refl })

    step_by : (N : Members) × (Q : Records) × StepChanges V M R i N Q
    step_by =
        let v : List ℕ = recovered_at V M (frontiers R) (R i).frontier (V.back (R i).frontier i) in
        let e = either (step_takes V M R i) (Moved (λ m n. Written m (R i).frontier v n) i M) M (moved_by (λ m n. Written m (R i).frontier v n) (λ m. written_by m (R i).frontier v) i M) in
        (e.0, cond (is_ok (step_outcome V M R i)) (event_records V R i Stepped) R, record { taken = e.1; refused = e.2; records = refl })

pub can_format : CanFormat
can_format V M room =
    let z = zeroed_by V M in
    (record { members = z.0; records = λ _. idle_at V.stripes }, record { before = M; roomy = room; zeroed = z.1; idle = λ i l. refl }, refl)

-- a member with S blocks that holds nothing
abbrev blank : ℕ → Meaning
blank S =
    let at : ℕ → Origin = λ b. record { height = 0; block = b } in
    record { count = S; height = 0; gone = false; block = λ _. None; writable = λ _. true; gone_origin = at; unreadable_origin = at; unwritable_origin = at }

pub some_formatted : SomeFormatted
some_formatted V = let f = can_format V (λ _. blank V.stripes) (λ i l. omega arith) in (f.0, f.1)

answers : (V : Shape) (σ : State) (q : Call) (M : Members) (R : Records) → Changes V σ q (record { members = M; records = R }) → (r : Answer) × (τ : State) × Makes V σ q r τ
answers V σ q M R h = let τ : State = record { members = M; records = R } in (answer_to V σ q τ, τ, record { answer = refl; changes = h })

pub always_answers : AlwaysAnswers
always_answers V σ tick = let t = tick_by V σ.members in answers V σ tick t.0 σ.records (t.1, refl)
always_answers V σ (read a len) = answers V σ (read a len) σ.members σ.records (refl, refl)
always_answers V σ (write a v) = let t = write_by V σ.members (frontiers σ.records) a v in answers V σ (write a v) t.0 σ.records (t.1, refl)
always_answers V σ (scrub s) = let t = scrub_by V σ.members (frontiers σ.records) s in answers V σ (scrub s) t.0 σ.records (t.1, refl)
always_answers V σ (replace i) = let t = replace_by V σ.members σ.records i in answers V σ (replace i) t.0 t.1 t.2
always_answers V σ (open_slot i) = answers V σ (open_slot i) σ.members (event_records V σ.records i Opened) (refl, refl)
always_answers V σ (step i) = let t = step_by V σ.members σ.records i in answers V σ (step i) t.0 t.1 t.2
always_answers V σ (close i) = answers V σ (close i) σ.members (event_records V σ.records i Closed) (refl, refl)
always_answers V σ margin = answers V σ margin σ.members σ.records (refl, refl)

-- the calls qs after the events es
called : (V : Shape) (start : State) (qs : List Call) (es : List Event) (σ : State) → history.Kept V start es σ → AllGiven qs
    → (fs : List Event) × (τ : State) × (map (λ (e : Event). e.call) fs ≡ qs) × history.Kept V start (es ++ fs) τ
called V start [] es σ k g = ([], σ, refl, subst (λ (x : List Event). history.Kept V start x σ) (sym (append-nil es)) k)
called V start (q ∷ qs) es σ k g =
    let a = always_answers V σ q in
    let e : Event = record { call = q; answer = a.0 } in
    let r = called V start qs (es ++ e ∷ []) a.1 (kept_by_calls V start es σ a.1 q a.0 k g.0 a.2) g.1 in
    (e ∷ r.0, r.1, ap (λ (x : List Call). q ∷ x) r.2, subst (λ (x : List Event). history.Kept V start x r.1) (append_assoc es (e ∷ []) r.0) r.3)

pub every_calls : EveryCalls
every_calls V L σ f qs g = called V σ qs [] σ (kept_from_format V L σ f) g
