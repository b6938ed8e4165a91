use Rattle.std.proofs.Common.{◌≡◌, vec_items, string_bytes}
use Rattle.recorder.specs.Runs.{RanOn}
use Rattle.recorder.proofs.lines.Given as goal

abbrev pub invariant-loop-i : goal.invariant-loop-i
invariant-loop-i g l =
    let v = g.V.AnyVolume in
    (v.shape l.volume ≡ v.shape l.initial.volume)
    × RanOn (v.shape l.initial.volume) (vec_items l.script.bytes) l.i (v.state l.initial.volume) (v.state l.volume) (string_bytes l.out)
