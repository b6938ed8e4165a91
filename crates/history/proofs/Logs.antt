-- The promise over a list of events, one event more at a time.
use Rattle.std.proofs.Common.{◌≡◌, ℕ, suc, ◌+◌, ◌<◌, ◌≤◌, cond, eqb, List, [], ◌∷◌, ◌++◌, length, sym, refl, ap, ◌∙◌, subst, ⊎_elim, arith}
use Rattle.std.proofs.lemmas.List.{get_or_append_left, get_or_push, length_push}
use Rattle.std.proofs.lemmas.Bool.{cond-true, cond-false, eq-eqb, ne_eqb, cases_eq}
use Rattle.contents.specs.Shapes.{Shape, Valid, Roomy}
use Rattle.history.specs.Calls.{State, Makes}
use Rattle.history.specs.Calls.Call.{tick}
use Rattle.history.specs.Calls.Answer.{done}
use Rattle.history.specs.History.{Event, Formatted, Run, GivenBytes, Kept, event_of, KeptFromFormat, KeptByCalls, KeptIsRoomy}
use Rattle.history.proofs.Standing.{stands}
use Rattle.history.proofs.Promises.{every_run}

kept_of : (V : Shape) → Valid V → (start : State) (es : List Event) (σ : State) (state : ℕ → State) → state 0 ≡ start → state (length es) ≡ σ → Run V (length es) (event_of es) state → Kept V start es σ
kept_of V L start es σ state b e run = record { valid = L; state = state; starts = b; ends = e; run = run; promise = every_run V L (length es) (event_of es) state run }

pub kept_from_format : KeptFromFormat
kept_from_format V L σ f = kept_of V L σ [] σ (λ _. σ) refl refl (record { begins = f; makes = λ j l. absurd (omega arith); given = λ j l. absurd (omega arith) })

-- ---- one call more, which leaves τ
module _ (V : Shape) (state : ℕ → State) (τ : State) where
  abbrev longer : ℕ → ℕ → State
  longer n j = cond (eqb j (suc n)) τ (state j)

  longer_old : (n j : ℕ) → j ≤ n → longer n j ≡ state j
  longer_old n j l = cond-false _ _ _ (ne_eqb j (suc n) (λ e. omega arith))

  longer_new : (n j : ℕ) → j ≡ suc n → longer n j ≡ τ
  longer_new n j e = cond-true _ _ _ (eq-eqb j (suc n) e)

  moved : (e d : Event) (σ ρ υ μ : State) → d ≡ e → ρ ≡ σ → μ ≡ υ → Makes V σ e.call e.answer υ → Makes V ρ d.call d.answer μ
  moved e d σ ρ υ μ x y z m =
      subst (λ (p : Event). Makes V ρ p.call p.answer μ) (sym x)
      (subst (λ (p : State). Makes V p e.call e.answer μ) (sym y) (subst (λ (p : State). Makes V σ e.call e.answer p) (sym z) m))

pub kept_by_calls : KeptByCalls
kept_by_calls V start es σ τ q r k g m =
    let e : Event = record { call = q; answer = r } in
    let n = length es in
    let more = es ++ e ∷ [] in
    let len : length more ≡ n + 1 = length_push es e in
    let none : Event = record { call = tick; answer = done } in
    let now : event_of more n ≡ e = get_or_push es e none n refl in
    let old : (j : ℕ) → j < n → event_of more j ≡ event_of es j = λ j l. get_or_append_left es (e ∷ []) none j l in
    let at = longer V k.state τ n in
    kept_of V k.valid start more τ at (longer_old V k.state τ n 0 (omega arith) ∙ k.starts) (longer_new V k.state τ n (length more) (omega (arith, len)))
    (record {
      begins = subst (Formatted V) (sym (longer_old V k.state τ n 0 (omega arith))) k.run.begins;
      makes = λ j l.
          ⊎_elim
          (λ (x : j ≡ n).
          moved V k.state τ e (event_of more j) σ (at j) τ (at (suc j)) (ap (event_of more) x ∙ now) (longer_old V k.state τ n j (omega arith) ∙ ap k.state x ∙ k.ends)
          (longer_new V k.state τ n (suc j) (ap suc x)) m)
          (λ (x : j ≡ n → ⊥).
          let lj : j < n = omega (arith, l, len) in
          moved V k.state τ (event_of es j) (event_of more j) (k.state j) (at j) (k.state (suc j)) (at (suc j)) (old j lj) (longer_old V k.state τ n j (omega arith))
          (longer_old V k.state τ n (suc j) (omega arith)) (k.run.makes j lj))
          (cases_eq j n);
      given = λ j l.
          ⊎_elim
          (λ (x : j ≡ n). subst (λ (p : Event). GivenBytes p.call) (sym (ap (event_of more) x ∙ now)) g)
          (λ (x : j ≡ n → ⊥). let lj : j < n = omega (arith, l, len) in subst (λ (p : Event). GivenBytes p.call) (sym (old j lj)) (k.run.given j lj))
          (cases_eq j n);
    })

pub kept_is_roomy : KeptIsRoomy
kept_is_roomy V start es σ k =
    subst (λ (ρ : State). Roomy V ρ.members) k.ends (stands V k.valid (length es) (event_of es) k.state k.run (length es) (omega arith)).roomy
