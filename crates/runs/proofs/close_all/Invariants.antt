use Rattle.std.proofs.Common.{◌≡◌, vec_items, vec_len}
use Rattle.runs.proofs.Logged.{Closing}
use Rattle.runs.proofs.close_all.Given as goal

abbrev pub invariant-loop-order : goal.invariant-loop-order
invariant-loop-order g l =
    let v = g.V.AnyVolume in
    (v.shape l.volume ≡ v.shape l.initial.volume)
    × Closing (v.shape l.initial.volume) (v.state l.initial.volume) (vec_items l.initial.orders) (vec_items l.orders) (v.state l.volume)

abbrev pub decreases-loop-order : goal.decreases-loop-order
decreases-loop-order g l = vec_len l.orders
