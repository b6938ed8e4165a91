use Rattle.std.proofs.Common.{◌≡◌, ◌+◌, ◌≤◌, length, take, vec_items, vec_len, vec_capacity}
use Rattle.runs.specs.Told.{events, orders_left, AllMade, GoesOn}
use Rattle.runs.proofs.run.Given as goal

-- the calls so far were made and are recorded, and there is room for the rest
abbrev pub invariant-loop-call : goal.invariant-loop-call
invariant-loop-call g l =
    let v = g.V.AnyVolume in
    let os = vec_items l.initial.orders in
    let qs = take l.call-index l.calls in
    let rs = vec_items l.log in
    (vec_len l.log ≡ l.call-index) × (length rs ≡ l.call-index) × (length l.calls ≤ vec_capacity l.log)
    × (vec_len l.orders + length l.calls ≤ vec_capacity l.orders + l.call-index)
    × (v.shape l.volume ≡ v.shape l.initial.volume)
    × GoesOn (v.shape l.initial.volume) (v.state l.initial.volume) (events os qs rs) (v.state l.volume)
    × (vec_items l.orders ≡ orders_left os qs rs)
    × AllMade os qs rs
