-- What events on a slot and steps of a rebuild answer and change, check by check.
use Rattle.std.proofs.Common.{◌≡◌, ℕ, ◌+◌, ◌<◌, ◌≤◌, Bool, true, false, cond, not, ◌&&◌, ltb, List, length, is_some, is_ok, Some, None, Ok, Err, Option, Result, sym, refl, ap, ◌∙◌, subst, ap₂, ⊎_elim, arith}
use Rattle.std.proofs.lemmas.Bool.{false≢true, cases_lt, cond-true, cond-false, lt-ltb, le-ltb, and_parts, not-true, not-false}
use Rattle.code.specs.Blocks.{block_size}
use Rattle.member.specs.Faults.{Refusal}
use Rattle.member.specs.Meaning.{Meaning, write_refusal}
use Rattle.member.specs.Changes.{Written, Renewed}
use Rattle.bank.specs.declared.BankFault.{BankFault}
use Rattle.bank.specs.Slots.{Slots, on_slot, bank_refusal}
use Rattle.bank.specs.Changes.{Changed}
use Rattle.contents.specs.declared.SlotState.{SlotState}
use Rattle.contents.specs.declared.SlotState.TheVariants.{Idle, Open}
use Rattle.contents.specs.declared.SlotEvent.TheVariants.{Stepped}
use Rattle.contents.specs.Columns.{Members, Frontiers, held}
use Rattle.contents.specs.declared.Loss.{Loss}
use Rattle.contents.specs.declared.Refusal.{Refusal as CallRefusal}
use Rattle.contents.specs.declared.Refusal.TheVariants.{Lost}
use Rattle.contents.specs.Refusals.{Told, plain, with_loss, outcome, answering}
use Rattle.contents.specs.Records.{Records, frontiers, is_open, with_record, slot_after, slot_answer, answer_by}
use Rattle.contents.specs.Shapes.{Shape, Roomy, missing_at, lossy, loss_at, recovered_at}
use Rattle.contents.specs.Changes.{Moved}
use Rattle.contents.specs.Rebuilds.{event_records, open_here, rebuilt, step_outcome, step_takes, fault_of, step_fault, StepChanges}
use Rattle.contents.proofs.Statuses.{shown, held_is}
use Rattle.volume.specs.Columns.{ColumnRebuilt}
use Rattle.volume.specs.Slots.{members_of}
use Rattle.volume.proofs.Looking.{members_here, members_beyond, members_empty}
use Rattle.volume.proofs.Walking.{moved_of, written_moved}

-- ---- an event on a slot
pub answering_ok : {U W : Type 0} (w : W) (r : Result U Told) (u : U) → Ok u ≡ r → Ok w ≡ answering w r
answering_ok {U} {W} w r u e = ap (answering {U = U} {W = W} w) e

pub answering_err : {U W : Type 0} (w : W) (r : Result U Told) (t : Told) → Err t ≡ r → Err t ≡ answering w r
answering_err {U} {W} w r t e = ap (answering {U = U} {W = W} w) e

-- ---- members
pub renewed_moved : (ms ns : Slots) (i : ℕ) → Changed Renewed ms i ns → Moved Renewed i (members_of ms) (members_of ns)
renewed_moved = moved_of Renewed (record { level = record { count = refl; height = refl }; present = refl }) (λ m n t. t.level.count)

-- what a member with blocks refuses is what its bank refuses
pub write_told : (ms : Slots) (i s n : ℕ) → 0 < (members_of ms i).count → on_slot ms i s (λ m. write_refusal m s n) ≡ write_refusal (members_of ms i) s n
write_told ms i s n l =
    ⊎_elim
    (λ (a : i < ms.size).
    ⊎_elim
    (λ (p : 0 < (ms.member i).count). cond-true _ _ _ (lt-ltb i ms.size a) ∙ ap (λ (m : Meaning). write_refusal m s n) (sym (members_here ms i a p)))
    (λ (p : (ms.member i).count ≤ 0). absurd (let e = ap (λ (m : Meaning). m.count) (members_empty ms i p) in omega (arith, e)))
    (cases_lt 0 (ms.member i).count))
    (λ (a : ms.size ≤ i). absurd (let e = ap (λ (m : Meaning). m.count) (members_beyond ms i a) in omega (arith, e)))
    (cases_lt i ms.size)

-- a column at or beyond its slot's frontier is missing
pub behind_missing : (M : Members) (F : Frontiers) (s i j : ℕ) → j ≡ i → F i ≤ s → is_some (held M F s j) ≡ false
behind_missing M F s i j e l = ap (λ (x : ℕ). is_some (held M F s x)) e ∙ ap is_some (held_is M F s i) ∙ none (M i).gone (ltb s (F i)) ((M i).block s) (le-ltb s (F i) l)
  where
    none : (g b : Bool) (o : Option (List ℕ)) → b ≡ false → is_some (shown g b o) ≡ false
    none true b o h = refl
    none false b o h = ap is_some (cond-false b o None h)

-- what the write of a rebuilt column answers, by the fault of the write
abbrev pub column_answer : Option Refusal → ℕ → Result Unit Told
column_answer o f = answering tt (rebuilt o f)

pub rebuilt_any : (o : Option Refusal) (f g : ℕ) → column_answer o f ≡ column_answer o g
rebuilt_any None f g = refl
rebuilt_any (Some x) f g = refl

-- what a bank answers to a write goes up with its fault
pub record Lifted (w : Result Unit BankFault) (r : Result Unit CallRefusal) : Type 0 where
  pub answered : outcome r ≡ column_answer (bank_refusal w) 0
  pub fault : fault_of r ≡ bank_refusal w

-- a column is not rebuilt, or it is written
pub column_lossy : (V : Shape) (M : Members) (F : Frontiers) (s i : ℕ) → 2 < missing_at V M F s → (l : Loss) → l ≡ loss_at V M F s → ColumnRebuilt V M F s i M (Err (Lost l))
column_lossy V M F s i h l e =
    let t = lt-ltb 2 (missing_at V M F s) h in
    record {
      answered = λ _. ap (λ (x : Loss). Err (with_loss 4 x)) e ∙ sym (cond-true _ _ _ t);
      fault = λ _. sym (cond-true _ _ _ t);
      taken = λ f. absurd (false≢true (sym f ∙ t));
      refused = λ _. refl;
    }

pub column_written : (V : Shape) (ms : Slots) (F : Frontiers) (s i : ℕ) → missing_at V (members_of ms) F s ≤ 2 → i < V.slots → s < V.stripes
    → (ns : Slots) → ns ≡ ms → (b : List ℕ) → b ≡ recovered_at V (members_of ms) F s (V.back s i) → length b ≡ block_size → (os : Slots) → Changed (λ m n. Written m s b n) ns i os
    → (w : Result Unit BankFault) → bank_refusal w ≡ on_slot ns i s (λ m. write_refusal m s (length b)) → (r : Result Unit CallRefusal) → Lifted w r → ColumnRebuilt V (members_of ms) F s i (members_of os) r
column_written V ms F s i h li ls ns same b eb lb os ch w ew r up =
    let M = members_of ms in
    let f = le-ltb 2 (missing_at V M F s) h in
    let moved = subst (λ (x : List ℕ). Moved (λ m n. Written m s x n) i M (members_of os)) eb (subst (λ (x : Slots). Moved (λ m n. Written m s b n) i (members_of x) (members_of os)) same (written_moved s b ns os i ch)) in
    let told : Roomy V M → bank_refusal w ≡ write_refusal (M i) s block_size = λ room.
    let q = room i li in
    let k : 0 < (M i).count = omega arith in
    ew ∙ ap (λ (x : Slots). on_slot x i s (λ m. write_refusal m s (length b))) same ∙ write_told ms i s (length b) k ∙ ap (write_refusal (M i) s) lb in
    record {
      answered = λ room. up.answered ∙ ap (λ (o : Option Refusal). column_answer o 0) (told room) ∙ rebuilt_any (write_refusal (M i) s block_size) 0 s ∙ sym (cond-false _ _ _ f);
      fault = λ room. up.fault ∙ told room ∙ sym (cond-false _ _ _ f);
      taken = λ _. moved;
      refused = λ t. absurd (false≢true (sym f ∙ t));
    }

-- ---- a step
pub record StepDone (V : Shape) (M : Members) (R : Records) (i : ℕ) (N : Members) (Q : Records) (r : Result ℕ Told) : Type 0 where
  pub answered : r ≡ step_outcome V M R i
  pub changes : StepChanges V M R i N Q

module _ (V : Shape) (M : Members) (R : Records) (i : ℕ) where
  module _ (eo : open_here V R i ≡ true) (lf : (R i).frontier < V.stripes) (N : Members) (w : Result Unit CallRefusal) (d : ColumnRebuilt V M (frontiers R) (R i).frontier i N w) where
    abbrev lost : Bool
    lost = lossy V M (frontiers R) (R i).frontier

    takes_is : step_takes V M R i ≡ not lost
    takes_is = ap₂ (λ (a b : Bool). a && (b && not lost)) eo (lt-ltb (R i).frontier V.stripes lf)

    outcome_is : step_outcome V M R i ≡ cond lost (Err (with_loss 4 (loss_at V M (frontiers R) (R i).frontier))) (rebuilt (write_refusal (M i) (R i).frontier block_size) (R i).frontier)
    outcome_is = cond-true _ _ _ eo ∙ cond-true _ _ _ (lt-ltb (R i).frontier V.stripes lf)

    turned : (b : Bool) (o : Option Refusal) → cond b None o ≡ cond (not b) o None
    turned true o = refl
    turned false o = refl

    -- a step carries the fault of its write
    pub carried : Roomy V M → fault_of w ≡ step_fault V M R i
    carried room = d.fault room ∙ turned lost (write_refusal (M i) (R i).frontier block_size) ∙ ap (λ (b : Bool). cond b (write_refusal (M i) (R i).frontier block_size) None) (sym takes_is)

    changed : (Q : Records) → Q ≡ cond (is_ok (step_outcome V M R i)) (event_records V R i Stepped) R → StepChanges V M R i N Q
    changed Q q = record { taken = λ t. d.taken (not-true _ (sym takes_is ∙ t)); refused = λ t. d.refused (not-false _ (sym takes_is ∙ t)); records = q }

    err_by : (b : Bool) (t u : Told) (o : Option Refusal) (f : ℕ) → ◌≡◌ {A = Result Unit Told} (Err u) (cond b (Err t) (column_answer o f)) → ◌≡◌ {A = Result ℕ Told} (Err u) (cond b (Err t) (rebuilt o f))
    err_by true t u o f e = let d : u ≡ t = cc in ap Err d
    err_by false t u None f e = absurd (let z : ◌≡◌ {A = ℕ} 0 1 = cc in omega arith)
    err_by false t u (Some x) f e = let d : u ≡ plain 9 = cc in ap Err d

    ok_by : (b : Bool) (t : Told) (o : Option Refusal) (f : ℕ) → ◌≡◌ {A = Result Unit Told} (Ok tt) (cond b (Err t) (column_answer o f)) → ◌≡◌ {A = Result ℕ Told} (Ok (f + 1)) (cond b (Err t) (rebuilt o f))
    ok_by true t o f e = absurd (let z : ◌≡◌ {A = ℕ} 0 1 = cc in omega arith)
    ok_by false t None f e = refl
    ok_by false t (Some x) f e = absurd (let z : ◌≡◌ {A = ℕ} 0 1 = cc in omega arith)

    -- the column was not written, or the member refused it
    pub step_failed : Roomy V M → (t : Told) → Err t ≡ outcome w → StepDone V M R i N R (Err t)
    step_failed room t e =
        let a : Err t ≡ step_outcome V M R i = err_by lost _ t (write_refusal (M i) (R i).frontier block_size) (R i).frontier (e ∙ d.answered room) ∙ sym outcome_is in
        record { answered = a; changes = changed R (sym (cond-false _ _ _ (sym (ap is_ok a)))) }

    state_open : (x : SlotState) → is_open x ≡ true → x ≡ Open
    state_open Idle e = absurd (false≢true e)
    state_open Open e = refl

    opened : (R i).state ≡ Open
    opened = state_open (R i).state (and_parts (ltb i V.slots) (is_open (R i).state) eo).1

    answer_is : slot_answer V.stripes (R i) Stepped ≡ Ok ((R i).frontier + 1)
    answer_is = ap (λ (x : SlotState). answer_by V.stripes x (R i).frontier Stepped) opened ∙ cond-true _ _ _ (lt-ltb (R i).frontier V.stripes lf)

    ok_faultless : (r : Result ℕ CallRefusal) (n : ℕ) → outcome r ≡ Ok n → fault_of r ≡ None
    ok_faultless (Ok u) n e = refl
    ok_faultless (Err x) n e = absurd (let z : ◌≡◌ {A = ℕ} 0 1 = cc in omega arith)

    -- what raises the frontier carries none
    pub raised_faultless : (r : Result ℕ CallRefusal) → outcome r ≡ slot_answer V.stripes (R i) Stepped → fault_of r ≡ None
    raised_faultless r e = ok_faultless r ((R i).frontier + 1) (e ∙ answer_is)

    -- the member took it
    pub step_made : Roomy V M → Ok tt ≡ outcome w → (Q : Records) (r : Result ℕ Told) → Q ≡ with_record R i (slot_after V.stripes (R i) Stepped) → r ≡ slot_answer V.stripes (R i) Stepped
        → StepDone V M R i N Q r
    step_made room e Q r q s =
        let a : Ok ((R i).frontier + 1) ≡ step_outcome V M R i = ok_by lost _ (write_refusal (M i) (R i).frontier block_size) (R i).frontier (e ∙ d.answered room) ∙ sym outcome_is in
        let li = (and_parts (ltb i V.slots) (is_open (R i).state) eo).0 in
        record { answered = s ∙ answer_is ∙ a; changes = changed Q (q ∙ sym (cond-true _ _ _ li) ∙ sym (cond-true _ _ _ (sym (ap is_ok a)))) }

-- ---- the record of an open slot
pub open_some : (b : Bool) (f s : ℕ) → Some s ≡ cond b (Some f) None → (b ≡ true) × (f ≡ s)
open_some true f s e = (refl, cc)
open_some false f s e = absurd (let z : ◌≡◌ {A = ℕ} 0 1 = cc in omega arith)

pub open_none : (b : Bool) (f : ℕ) → None ≡ cond b (Some f) None → b ≡ false
open_none true f e = absurd (let z : ◌≡◌ {A = ℕ} 0 1 = cc in omega arith)
open_none false f e = refl
