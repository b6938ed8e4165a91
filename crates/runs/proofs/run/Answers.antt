use Rattle.std.proofs.Common.{◌≡◌, ℕ, ◌+◌, ◌<◌, ◌≤◌, List, [], ◌∷◌, ◌++◌, length, take, vec_items, Result, sym, refl, ap, ◌∙◌, subst, ap₂, arith}
use Rattle.std.proofs.lemmas.List.{take_more, take_all, length_push, length-take-le}
use Rattle.contents.specs.Shapes.{Shape}
use Rattle.history.specs.History.{Event}
use Rattle.volume.specs.declared.volume.rebuilds.Order.{Order}
use Rattle.runs.specs.declared.Call.{Call}
use Rattle.runs.specs.declared.Answer.{Answer}
use Rattle.runs.specs.declared.Declined.{Declined}
use Rattle.runs.specs.Told.{event_of, events, orders_after, orders_left, lacks, AllMade, GoesOn}
use Rattle.runs.proofs.Logged.{orders_push, events_push, all_made_push, goes_nowhere, goes_further}
use Rattle.runs.proofs.run.Goals as goal

pub loop-call-init : goal.loop-call-init
loop-call-init g c =
    let m = c.in_ok-log.ensures in
    let room = c.in_ok-reserve.ensures.ok in
    (m.len, ap length m.items, m.capacity, omega arith, refl, goes_nowhere _ _, refl, tt)

pub obey-answer-requires : goal.obey-answer-requires
obey-answer-requires g c =
    let lt : c.loop-call.call-index < length c.args.calls.now = c.loop-call-test.true in
    record { room = omega (arith, c.loop-call.invariant.3) }

pub loop-call-preserved : goal.loop-call-preserved
loop-call-preserved g c =
    let any = g.V.AnyVolume in
    let i = c.loop-call.invariant in
    let p = c.push_reserved.ensures.items in
    let lt : c.loop-call.call-index < length c.args.calls.now = c.loop-call-test.true in
    let x = c.obey-answer.ensures in
    let y = x.obeyed in
    let call = c.call-item.result in
    let answer = c.obey-answer.result in
    let n = c.loop-call.call-index in
    let cs = c.args.calls.now in
    let rs = vec_items c.loop-call.log in
    let os = vec_items c.reserve.new.self in
    let V = any.shape c.args.volume.now in
    let σ = any.state c.args.volume.now in
    let τ = any.state c.loop-call.volume in
    let ρ = any.state c.obey-answer.new.volume in
    let more : take (n + 1) cs ≡ take n cs ++ call ∷ [] = take_more cs n call lt ∙ ap (λ (y : Call). take n cs ++ y ∷ []) (sym c.call-item.is) in
    let len : length (take n cs) ≡ length rs = length-take-le n cs (omega arith) ∙ sym i.1 in
    let all : events os (take (n + 1) cs) (vec_items c.push_reserved.new.self) ≡ events os (take n cs) rs ++ event_of (vec_items c.loop-call.orders) call answer =
    ap₂ (events os) more p ∙ events_push os (take n cs) rs call answer len ∙ ap (λ (l : List Order). events os (take n cs) rs ++ event_of l call answer) (sym i.6) in
    let left : orders_left os (take (n + 1) cs) (vec_items c.push_reserved.new.self) ≡ orders_after (vec_items c.loop-call.orders) call answer =
    ap₂ (orders_left os) more p ∙ orders_push os (take n cs) rs call answer len ∙ ap (λ (l : List Order). orders_after l call answer) (sym i.6) in
    let goes : GoesOn V τ (event_of (vec_items c.loop-call.orders) call answer) ρ =
    subst (λ (W : Shape). GoesOn W τ (event_of (vec_items c.loop-call.orders) call answer) ρ) i.4 y.goes in (
      omega (arith, c.push_reserved.ensures.len, i.0),
      ap length p ∙ length_push rs answer ∙ ap (λ (y : ℕ). y + 1) i.1,
      omega (arith, c.push_reserved.ensures.capacity, i.2),
      omega (arith, x.kept.len, x.kept.capacity, i.3),
      y.same ∙ i.4,
      subst (λ (l : List Event). GoesOn V σ l ρ) (sym all) (goes_further V σ τ ρ _ _ i.5 goes),
      x.orders ∙ sym left,
      subst (λ (l : List Call). AllMade os l (vec_items c.push_reserved.new.self)) (sym more)
          (subst (λ (l : List (Result Answer Declined)). AllMade os (take n cs ++ call ∷ []) l) (sym p)
          (all_made_push os (take n cs) rs call answer len i.7 (y.made ∙ ap (λ (l : List Order). lacks l call) i.6))),
    )

pub returns : goal.returns
returns g c =
    let any = g.V.AnyVolume in
    let i = c.loop-call.invariant in
    let h : length c.args.calls.now ≤ c.loop-call.call-index = c.loop-call-test.false in
    let k = c.loop-call.auto.call-index-end in
    let cs = c.args.calls.now in
    let rs = vec_items c.loop-call.log in
    let V = any.shape c.args.volume.now in
    let σ = any.state c.args.volume.now in
    let ρ = any.state c.loop-call.volume in
    let os = c.reserve.ensures.items in
    let all = take_all c.loop-call.call-index cs h in
    record {
      same = i.4;
      each = omega (arith, i.1, h, k);
      promise = subst (λ (l : List Order). GoesOn V σ (events l cs rs) ρ) os (subst (λ (l : List Call). GoesOn V σ (events (vec_items c.reserve.new.self) l rs) ρ) all i.5);
      orders = i.6 ∙ ap₂ (λ (l : List Order) (q : List Call). orders_left l q rs) os all;
      all = subst (λ (l : List Order). AllMade l cs rs) os (subst (λ (l : List Call). AllMade (vec_items c.reserve.new.self) l rs) all i.7);
      unchanged = tt;
    }
