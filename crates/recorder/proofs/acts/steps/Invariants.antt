use Rattle.std.proofs.Common.{◌≡◌}
use Rattle.recorder.proofs.Running.{GoingOn}
use Rattle.recorder.proofs.acts.steps.Given as goal

abbrev pub invariant-loop-made : goal.invariant-loop-made
invariant-loop-made g l =
    let v = g.V.AnyVolume in
    (v.shape l.volume ≡ v.shape l.initial.volume) × GoingOn (v.shape l.initial.volume) (v.state l.initial.volume) l.order.slot l._made (v.state l.volume)
