-- Operations and runs of operations, as parts of a volume's history.
use Rattle.std.proofs.Common.{◌≡◌, ℕ, ◌+◌, ◌<◌, ◌≤◌, List, [], ◌++◌, IfOk, IsErr, IsErrAnd, Some, None, Ok, Err, Option, Result, sym, refl, ap, ◌∙◌, subst}
use Rattle.std.proofs.lemmas.Bool.{false≢true}
use Rattle.contents.specs.Refusals.{Told, told}
use Rattle.contents.specs.declared.Refusal.{Refusal}
use Rattle.code.specs.Codes.{Coding}
use Rattle.contents.specs.Columns.{Members}
use Rattle.contents.specs.Changes.{FormatChanges}
use Rattle.contents.specs.Records.{idle_at}
use Rattle.contents.specs.Shapes.{Shape}
use Rattle.history.specs.Calls.{State, Call, Answer}
use Rattle.history.specs.Calls.Call.{open_slot, step, close}
use Rattle.history.specs.Calls.Answer.{number, order, refused}
use Rattle.history.specs.History.{Event, Kept}
use Rattle.runs.specs.declared.any_volume.AnyVolume.{Ghosts as AnyVolume}
use Rattle.runs.specs.Told.{event, GoesOn}
use Rattle.runs.proofs.Logged.{goes_nowhere, goes_further}
use Rattle.script.specs.declared.parts.Act.{Act}
use Rattle.script.specs.declared.parts.Act.TheVariants.{Rebuild}
use Rattle.recorder.specs.declared.acts.ActRefusal.{ActRefusal}
use Rattle.recorder.specs.declared.acts.ActRefusal.TheVariants.{Refused}
use Rattle.recorder.specs.Acts.{SteppedOn, none, more, spent, ended, halted, kept_shut, rebuilt, rebuild_line, refusal_line, told_line, OneCall, Acted, Rebuilt, StepsOn}
use Rattle.recorder.specs.Doing.{DidAct}
use Rattle.recorder.specs.Lines.{line_of, refused_line}
use Rattle.recorder.specs.Slots.{recorder_shape, blank_members}
use Rattle.recorder.specs.Runs.{Ran, start, next, RanOn, ActStep, AllLines, Replayed}

-- ---- an operation that is one call

-- a refusal that goes up
pub refused_line_of : (r : Result ℕ ActRefusal) (e : Refusal) → IsErr r × IsErrAnd r (λ x. x ≡ Refused e) → told_line r ≡ refused_line (told e)
refused_line_of (Ok n) e h = absurd (false≢true h.0)
refused_line_of (Err x) e h = ap refusal_line h.1

-- the act is what an operation asks for
pub one_call : {A : Type 0} (any : AnyVolume A) (v w : A) (a b : Act) (q : Call) (x : Answer) (r : Result ℕ ActRefusal) → a ≡ b
    → ((es : List Event) (l : ℕ × ℕ) → OneCall q es l → Acted (any.shape v).stripes a es l) → any.shape w ≡ any.shape v → told_line r ≡ line_of x
    → GoesOn (any.shape v) (any.state v) (event q x) (any.state w) → DidAct any v b r w
one_call any v w a b q x r same_act acted same line goes =
    subst (λ (c : Act). DidAct any v c r w) same_act (record {
      same = same;
      acts = record { log = event q x; acted = acted (event q x) (told_line r) (record { answer = x; made = refl; line = line }); goes = goes };
    })

-- ---- the steps of a rebuild

-- so many steps were made, with stripes left
pub record GoingOn (V : Shape) (σ : State) (i n : ℕ) (τ : State) : Type 0 where
  pub log : List Event
  pub stepped : SteppedOn V.stripes i n log
  pub goes : GoesOn V σ log τ

pub going_none : (V : Shape) (σ : State) (i : ℕ) → GoingOn V σ i 0 σ
going_none V σ i = record { log = []; stepped = none; goes = goes_nowhere V σ }

module _ (V W : Shape) (σ τ ρ : State) (i n : ℕ) (same : W ≡ V) (g : GoingOn V σ i n τ) where
  abbrev further : (r : Answer) → GoesOn W τ (event (step i) r) ρ → GoesOn V σ (g.log ++ event (step i) r) ρ
  further r h = goes_further V σ τ ρ g.log (event (step i) r) g.goes (subst (λ (X : Shape). GoesOn X τ (event (step i) r) ρ) same h)

  pub going_more : (f : ℕ) → f < V.stripes → GoesOn W τ (event (step i) (number f)) ρ → GoingOn V σ i (n + 1) ρ
  going_more f l h = record { log = g.log ++ event (step i) (number f); stepped = more n f g.log g.stepped l; goes = further (number f) h }

  pub steps_ended : (y f : ℕ) → n < y → V.stripes ≤ f → GoesOn W τ (event (step i) (number f)) ρ → StepsOn V σ i y None ρ
  steps_ended y f l k h = record { log = g.log ++ event (step i) (number f); stopped = ended n f g.log l g.stepped k; goes = further (number f) h }

  pub steps_halted : (y : ℕ) (t : Told) → n < y → GoesOn W τ (event (step i) (refused t)) ρ → StepsOn V σ i y (Some t) ρ
  steps_halted y t l h = record { log = g.log ++ event (step i) (refused t); stopped = halted n t g.log l g.stepped; goes = further (refused t) h }

pub steps_spent : (V : Shape) (σ τ : State) (i n y : ℕ) → n ≡ y → GoingOn V σ i n τ → StepsOn V σ i y None τ
steps_spent V σ τ i n y e g = record {
  log = g.log;
  stopped = spent g.log (subst (λ (x : ℕ). SteppedOn V.stripes i x g.log) e g.stepped);
  goes = g.goes;
}

-- ---- a rebuild
pub rebuild_refused : {A : Type 0} (any : AnyVolume A) (v w : A) (i y : ℕ) (e : Refusal) (r : Result ℕ ActRefusal) → any.shape w ≡ any.shape v → told_line r ≡ refused_line (told e)
    → GoesOn (any.shape v) (any.state v) (event (open_slot i) (refused (told e))) (any.state w) → DidAct any v (Rebuild i y) r w
rebuild_refused any v w i y e r same line goes = record {
  same = same;
  acts = record {
    log = event (open_slot i) (refused (told e));
    acted = subst (λ (l : ℕ × ℕ). Rebuilt (any.shape v).stripes i y (event (open_slot i) (refused (told e))) l) (sym line) (kept_shut (told e));
    goes = goes;
  };
}

-- opened, which gives a; stepped, which gives b; and closed
pub rebuild_done : {A : Type 0} (any : AnyVolume A) (v a b w : A) (i y j : ℕ) (stop : Option Told) (x : Answer) (r : Result ℕ ActRefusal)
    → any.shape a ≡ any.shape v → any.shape b ≡ any.shape a → any.shape w ≡ any.shape b → j ≡ i → told_line r ≡ rebuild_line stop x
    → GoesOn (any.shape v) (any.state v) (event (open_slot i) (order j)) (any.state a) → StepsOn (any.shape a) (any.state a) j y stop (any.state b)
    → GoesOn (any.shape b) (any.state b) (event (close j) x) (any.state w) → DidAct any v (Rebuild i y) r w
rebuild_done any v a b w i y j stop x r opened stepped closed slot line f g h =
    let V = any.shape v in
    let same = stepped ∙ opened in
    let f' = subst (λ (k : ℕ). GoesOn V (any.state v) (event (open_slot i) (order k)) (any.state a)) slot f in
    let g' = subst (λ (Z : Shape). StepsOn Z (any.state a) i y stop (any.state b)) opened (subst (λ (k : ℕ). StepsOn (any.shape a) (any.state a) k y stop (any.state b)) slot g) in
    let h' = subst (λ (Z : Shape). GoesOn Z (any.state b) (event (close i) x) (any.state w)) same (subst (λ (k : ℕ). GoesOn (any.shape b) (any.state b) (event (close k) x) (any.state w)) slot h) in
    record {
      same = closed ∙ same;
      acts = record {
        log = event (open_slot i) (order i) ++ (g'.log ++ event (close i) x);
        acted = subst (λ (l : ℕ × ℕ). Rebuilt V.stripes i y (event (open_slot i) (order i) ++ (g'.log ++ event (close i) x)) l) (sym line) (rebuilt g'.log stop x g'.stopped);
        goes = goes_further V (any.state v) (any.state a) (any.state w) _ _ f' (goes_further V (any.state a) (any.state b) (any.state w) _ _ g'.goes h');
      };
    }

-- ---- runs of operations

-- no operation, and no text
pub ran_none : (V : Shape) (xs : List ℕ) (σ : State) (t : List ℕ) → t ≡ [] → RanOn V xs 0 σ σ t
ran_none V xs σ t e = record { log = []; ran = subst (λ (u : List ℕ). Ran V.stripes xs 0 [] u) (sym e) start; goes = goes_nowhere V σ }

-- one more operation, of a volume that has kept its shape
pub ran_more : (V W : Shape) (xs : List ℕ) (i : ℕ) (σ τ ρ : State) (t u : List ℕ) → W ≡ V → RanOn V xs i σ τ t → ActStep W xs i τ ρ t u → RanOn V xs (i + 1) σ ρ u
ran_more V W xs i σ τ ρ t u e r a =
    let b : ActStep V xs i τ ρ t u = subst (λ (X : Shape). ActStep X xs i τ ρ t u) e a in
    record {
      log = r.log ++ b.acts.log;
      ran = subst (λ (x : List ℕ). Ran V.stripes xs (i + 1) (r.log ++ b.acts.log) x) (sym b.text)
          (next i r.log b.acts.log t b.operation b.line r.ran b.asked b.acts.acted);
      goes = goes_further V σ τ ρ r.log b.acts.log r.goes b.acts.goes;
    }

-- ---- replays

-- the lines on what was formatted as a volume of the recorder's shape
pub replayed : (C : Coding) (xs : List ℕ) (V : Shape) (A : Members) (σ : State) → V ≡ recorder_shape C xs → A ≡ blank_members xs
    → FormatChanges V A σ.members → ((i : ℕ) → i < V.slots → σ.records i ≡ idle_at V.stripes) → Kept V σ [] σ
    → {X E : Type 0} (text : X → List ℕ) (r : Result X E) → IfOk r (λ s. AllLines V xs σ (text s)) → IfOk r (λ s. Replayed C xs (text s))
replayed C xs V A σ p q z d k text (Err x) h = tt
replayed C xs V A σ p q z d k text (Ok s) h =
    let W = recorder_shape C xs in
    let l = subst (λ (S : Shape). AllLines S xs σ (text s)) p h in
    record {
      formatted = σ;
      zeroed = subst (λ (B : Members). FormatChanges W B σ.members) q (subst (λ (S : Shape). FormatChanges S A σ.members) p z);
      idle = subst (λ (S : Shape). (i : ℕ) → i < S.slots → σ.records i ≡ idle_at S.stripes) p d;
      log = l.ran.log;
      left = l.left;
      ran = l.ran.ran;
      kept = l.ran.goes σ [] (subst (λ (S : Shape). Kept S σ [] σ) p k);
    }
