-- One call more at the end of a run, and a history that goes on by one part after another.
use Rattle.std.proofs.Common.{◌≡◌, List, [], ◌∷◌, ◌++◌, map, length, Result, sym, refl, ap, ◌∙◌, subst, arith}
use Rattle.std.proofs.lemmas.List.{append_assoc, append-nil, map-append, reverse-append}
use Rattle.contents.specs.Shapes.{Shape}
use Rattle.history.specs.Calls as calls
use Rattle.history.specs.Calls.{State}
use Rattle.history.specs.Calls.Call.{close}
use Rattle.history.specs.History.{Event, Kept}
use Rattle.volume.specs.declared.volume.rebuilds.Order.{Order}
use Rattle.runs.specs.declared.Call.{Call}
use Rattle.runs.specs.declared.Answer.{Answer}
use Rattle.runs.specs.declared.Declined.{Declined}
use Rattle.runs.specs.Told.{event, event_of, orders_after, events, orders_left, lacks, is_none, AllMade, GoesOn, closings, ClosesOn}

pub orders_push : (os : List Order) (qs : List Call) (rs : List (Result Answer Declined)) (q : Call) (r : Result Answer Declined) → length qs ≡ length rs
    → orders_left os (qs ++ q ∷ []) (rs ++ r ∷ []) ≡ orders_after (orders_left os qs rs) q r
orders_push os [] [] q r e = refl
orders_push os [] (y ∷ rs) q r e = absurd (omega arith)
orders_push os (x ∷ qs) [] q r e = absurd (omega arith)
orders_push os (x ∷ qs) (y ∷ rs) q r e = orders_push (orders_after os x y) qs rs q r (omega arith)

pub events_push : (os : List Order) (qs : List Call) (rs : List (Result Answer Declined)) (q : Call) (r : Result Answer Declined) → length qs ≡ length rs
    → events os (qs ++ q ∷ []) (rs ++ r ∷ []) ≡ events os qs rs ++ event_of (orders_left os qs rs) q r
events_push os [] [] q r e = append-nil (event_of os q r)
events_push os [] (y ∷ rs) q r e = absurd (omega arith)
events_push os (x ∷ qs) [] q r e = absurd (omega arith)
events_push os (x ∷ qs) (y ∷ rs) q r e =
    ap (λ (l : List Event). event_of os x y ++ l) (events_push (orders_after os x y) qs rs q r (omega arith))
    ∙ sym (append_assoc (event_of os x y) (events (orders_after os x y) qs rs) (event_of (orders_left (orders_after os x y) qs rs) q r))

pub all_made_push : (os : List Order) (qs : List Call) (rs : List (Result Answer Declined)) (q : Call) (r : Result Answer Declined) → length qs ≡ length rs → AllMade os qs rs
    → is_none r ≡ lacks (orders_left os qs rs) q → AllMade os (qs ++ q ∷ []) (rs ++ r ∷ [])
all_made_push os [] [] q r e h m = (m, tt)
all_made_push os [] (y ∷ rs) q r e h m = absurd (omega arith)
all_made_push os (x ∷ qs) [] q r e h m = absurd (omega arith)
all_made_push os (x ∷ qs) (y ∷ rs) q r e h m = (h.0, all_made_push (orders_after os x y) qs rs q r (omega arith) h.1 m)

-- ---- histories
pub goes_nowhere : (V : Shape) (σ : State) → GoesOn V σ [] σ
goes_nowhere V σ start es k = subst (λ (l : List Event). Kept V start l σ) (sym (append-nil es)) k

pub goes_further : (V : Shape) (σ τ ρ : State) (xs ys : List Event) → GoesOn V σ xs τ → GoesOn V τ ys ρ → GoesOn V σ (xs ++ ys) ρ
goes_further V σ τ ρ xs ys f g start es k = subst (λ (l : List Event). Kept V start l ρ) (append_assoc es xs ys) (g start (es ++ xs) (f start es k))

-- ---- orders closed one after the other
abbrev calls_of : List Event → List calls.Call
calls_of = map (λ (e : Event). e.call)

-- so far these are closed, and those at hand are left of all
pub record Closing (V : Shape) (σ : State) (all rest : List Order) (τ : State) : Type 0 where
  pub log : List Event
  pub made : calls_of log ++ closings rest ≡ closings all
  pub goes : GoesOn V σ log τ

pub closing_none : (V : Shape) (σ : State) (os : List Order) → Closing V σ os os σ
closing_none V σ os = record { log = []; made = refl; goes = goes_nowhere V σ }

last_first : (rest : List Order) (o : Order) → closings (rest ++ o ∷ []) ≡ close o.slot ∷ closings rest
last_first rest o = ap (map (λ (x : Order). close x.slot)) (reverse-append rest (o ∷ []))

pub closing_more : (V W : Shape) (σ τ ρ : State) (all before rest : List Order) (o : Order) (r : calls.Answer) → W ≡ V → before ≡ rest ++ o ∷ []
    → Closing V σ all before τ → GoesOn W τ (event (close o.slot) r) ρ → Closing V σ all rest ρ
closing_more V W σ τ ρ all before rest o r same e k g =
    let new = event (close o.slot) r in
    record {
      log = k.log ++ new;
      made = ap (λ (l : List calls.Call). l ++ closings rest) (map-append (λ (x : Event). x.call) k.log new)
          ∙ append_assoc (calls_of k.log) (close o.slot ∷ []) (closings rest)
          ∙ ap (λ (l : List calls.Call). calls_of k.log ++ l) (sym (ap closings e ∙ last_first rest o))
          ∙ k.made;
      goes = goes_further V σ τ ρ k.log new k.goes (subst (λ (X : Shape). GoesOn X τ new ρ) same g);
    }

pub closing_all : (V : Shape) (σ τ : State) (all rest : List Order) → rest ≡ [] → Closing V σ all rest τ → ClosesOn V σ all τ
closing_all V σ τ all rest e k = record { log = k.log; closes = sym (append-nil (calls_of k.log)) ∙ ap (λ (l : List Order). calls_of k.log ++ closings l) (sym e) ∙ k.made; goes = k.goes }
