use Rattle.std.proofs.Common.{◌≡◌, vec_items}
use Rattle.recorder.specs.Planned.{planned}
use Rattle.recorder.proofs.stack.Given as goal

abbrev pub invariant-loop-i : goal.invariant-loop-i
invariant-loop-i g l =
    (l.layer.below ≡ l.initial.layer.below)
    × (l.layer.plan ≡ planned (vec_items l.script.bytes) l.slot l.i)
