-- Along a run the written content fits, every member has room, and no frontier is above the number of stripes.
use Rattle.std.proofs.Common.{◌≡◌, ℕ, zero, suc, ◌+◌, ◌<◌, ◌≤◌, Bool, true, cond, eqb, ltb, List, length, is_ok, Ok, Err, Result, sym, refl, ap, ◌∙◌, subst, arith}
use Rattle.std.proofs.lemmas.Bool.{cond_both, ltb-true}
use Rattle.code.specs.Blocks.{zeros}
use Rattle.parity.specs.Stripe.{put}
use Rattle.contents.specs.declared.SlotState.{SlotState}
use Rattle.contents.specs.declared.SlotState.TheVariants.{Idle, Open}
use Rattle.contents.specs.declared.SlotEvent.{SlotEvent}
use Rattle.contents.specs.declared.SlotEvent.TheVariants.{Replaced, Opened, Stepped, Closed}
use Rattle.contents.specs.declared.SlotRecord.{SlotRecord}
use Rattle.contents.specs.Columns.{Members}
use Rattle.contents.specs.Refusals.{Told}
use Rattle.contents.specs.Refusals as refusals
use Rattle.contents.specs.Records.{Records, frontiers, idle_at, open_at, with_record, after_by, slot_after}
use Rattle.contents.specs.Shapes.{Shape, Valid, Roomy, FitsVolume}
use Rattle.contents.specs.Answers.{write_outcome, write_takes}
use Rattle.contents.specs.Theorems.{CountsKept}
use Rattle.contents.specs.Rebuilds.{event_records, step_outcome}
use Rattle.contents.proofs.Keeping.{scrubs, ticks, formats}
use Rattle.contents.proofs.Writing.{writes}
use Rattle.contents.proofs.Rebuilding.{replaces, rebuilds, stays, frontiers_kept, open_stays, close_stays}
use Rattle.history.specs.Calls.{State, Call, Answer, answered, Makes, Fits}
use Rattle.history.specs.Calls.Call.{tick, read, write, scrub, replace, open_slot, step, close, margin}
use Rattle.history.specs.Calls.Answer.{number}
use Rattle.history.specs.History.{Event, Formatted, Run, GivenBytes, taken, after, written}

-- ---- frontiers

abbrev Within : Shape → Records → Type 0
Within V R = (i : ℕ) → i < V.slots → (R i).frontier ≤ V.stripes

-- an event leaves a frontier within the stripes
after_within : (S : ℕ) (x : SlotState) (f : ℕ) (e : SlotEvent) → f ≤ S → (after_by S x f e).frontier ≤ S
after_within S Idle f Replaced l = omega arith
after_within S Idle f Opened l = cond_both (ltb f S) (open_at f) (idle_at f) (λ (r : SlotRecord). r.frontier ≤ S) (λ _. l) (λ _. l)
after_within S Idle f Stepped l = l
after_within S Idle f Closed l = l
after_within S Open f Replaced l = l
after_within S Open f Opened l = l
after_within S Open f Stepped l =
    cond_both (ltb f S) (open_at (f + 1)) (open_at f) (λ (r : SlotRecord). r.frontier ≤ S) (λ e. let h = ltb-true f S e in omega arith) (λ _. l)
after_within S Open f Closed l = l

event_within : (V : Shape) (R : Records) (i : ℕ) (e : SlotEvent) → Within V R → Within V (event_records V R i e)
event_within V R i e h j l =
    let x : SlotRecord = slot_after V.stripes (R i) e in
    cond_both (ltb i V.slots) (with_record R i x) R (λ (Q : Records). (Q j).frontier ≤ V.stripes)
    (λ t. cond_both (eqb j i) x (R j) (λ (r : SlotRecord). r.frontier ≤ V.stripes) (λ _. after_within V.stripes (R i).state (R i).frontier e (h i (ltb-true i V.slots t))) (λ _. h j l))
    (λ _. h j l)

-- ---- what holds of each state of a run, with the content c

pub record Stands (V : Shape) (σ : State) (c : ℕ → List ℕ) : Type 0 where
  pub fits : Fits V σ c
  pub roomy : Roomy V σ.members
  pub within : (i : ℕ) → i < V.slots → (σ.records i).frontier ≤ V.stripes

-- a write's answer and its outcome are taken alike
taken_alike : (o : Result ℕ Told) → taken (answered number o) ≡ refusals.taken o
taken_alike (Ok u) = refl
taken_alike (Err t) = refl

module _ (V : Shape) (L : Valid V) (σ τ : State) (c : ℕ → List ℕ) (h : Stands V σ c) where
  roomy_on : CountsKept σ.members τ.members → Roomy V τ.members
  roomy_on k i l = let e = k i in let r = h.roomy i l in omega arith

  -- only members change
  records_left : (d : ℕ → List ℕ) → τ.records ≡ σ.records → FitsVolume V τ.members (frontiers σ.records) d → CountsKept σ.members τ.members → Stands V τ d
  records_left d e f k = record {
    fits = subst (λ (R : Records). FitsVolume V τ.members (frontiers R) d) (sym e) f;
    roomy = roomy_on k;
    within = subst (Within V) (sym e) h.within;
  }

  -- a frontier moves only by an event, which is taken or not
  by_event : (i : ℕ) (e : SlotEvent) (b : Bool) → τ.records ≡ cond b (event_records V σ.records i e) σ.records → Fits V τ c → CountsKept σ.members τ.members → Stands V τ c
  by_event i e b q f k = record {
    fits = f;
    roomy = roomy_on k;
    within = subst (Within V) (sym q) (cond_both b (event_records V σ.records i e) σ.records (Within V) (λ _. event_within V σ.records i e h.within) (λ _. h.within));
  }

  -- nothing changes
  left : (τ.members ≡ σ.members) × (τ.records ≡ σ.records) → Stands V τ c
  left p =
      records_left c p.1 (subst (λ (M : Members). FitsVolume V M (frontiers σ.records) c) (sym p.0) h.fits) (λ i. ap (λ (M : Members). (M i).count) p.0)

  -- no member changes, and no frontier
  turned : (i : ℕ) (e : SlotEvent) → (slot_after V.stripes (σ.records i) e).frontier ≡ (σ.records i).frontier → (τ.members ≡ σ.members) × (τ.records ≡ event_records V σ.records i e)
      → Stands V τ c
  turned i e s p =
      by_event i e true p.1
      (frontiers_kept V L σ.members τ.members (frontiers σ.records) (frontiers τ.records) p.0
      (λ j. ap (λ (R : Records). (R j).frontier) p.1 ∙ stays σ.records i (slot_after V.stripes (σ.records i) e) (ltb i V.slots) s j) c h.fits)
      (λ j. ap (λ (M : Members). (M j).count) p.0)

  by_call : (q : Call) (r : Answer) → GivenBytes q → Makes V σ q r τ → Stands V τ (after c q r)
  by_call tick r g m = let t = ticks V L σ.members (frontiers σ.records) h.roomy τ.members m.changes.0 in records_left c m.changes.1 (t.0 c h.fits) t.1
  by_call (read a len) r g m = left m.changes
  by_call (write a v) r g m =
      let M = σ.members in
      let F = frontiers σ.records in
      let w = writes V L M F h.roomy a v τ.members (g a v refl) m.changes.0 in
      let e : taken r ≡ write_takes V M F a (length v) = ap taken m.answer ∙ taken_alike (write_outcome V M F a (length v) τ.members) ∙ w.takes in
      records_left (cond (taken r) (put c a v) c) m.changes.1
      (subst (λ (b : Bool). FitsVolume V τ.members F (cond b (put c a v) c)) (sym e) (w.fits c h.fits)) w.counts
  by_call (scrub s) r g m =
      let t = scrubs V L σ.members (frontiers σ.records) h.roomy s τ.members m.changes.0 in
      records_left c m.changes.1 (t.fits c h.fits) t.counts
  by_call (replace i) r g m =
      let t = replaces V L σ.members σ.records i τ.members τ.records m.changes in
      by_event i Replaced true m.changes.records (t.0 c h.fits) t.1
  by_call (open_slot i) r g m = turned i Opened (open_stays V.stripes (σ.records i).state (σ.records i).frontier) m.changes
  by_call (step i) r g m =
      let t = rebuilds V L σ.members σ.records h.roomy i τ.members τ.records m.changes in
      by_event i Stepped (is_ok (step_outcome V σ.members σ.records i)) m.changes.records (t.0 c h.fits) t.1
  by_call (close i) r g m = turned i Closed (close_stays V.stripes (σ.records i).state (σ.records i).frontier) m.changes
  by_call margin r g m = left m.changes

from_format : (V : Shape) → Valid V → (σ : State) → Formatted V σ → Stands V σ (λ _. zeros)
from_format V L σ f =
    let z = formats V L f.before (frontiers σ.records) f.roomy σ.members f.zeroed in
    record {
      fits = z.0;
      roomy = λ i l. let e = z.1 i in let r = f.roomy i l in omega arith;
      within = λ i l. let e : (σ.records i).frontier ≡ V.stripes = ap (λ (r : SlotRecord). r.frontier) (f.idle i l) in omega arith;
    }

pub stands : (V : Shape) → Valid V → (n : ℕ) (event : ℕ → Event) (state : ℕ → State) → Run V n event state → (j : ℕ) → j ≤ n → Stands V (state j) (written event j)
unfolding written
stands V L n event state run zero l = from_format V L (state 0) run.begins
stands V L n event state run (suc j) l =
    by_call V L (state j) (state (suc j)) (written event j) (stands V L n event state run j (omega arith)) (event j).call (event j).answer (run.given j (omega arith)) (run.makes j (omega arith))
