use Rattle.std.proofs.Common.{◌-◌}
use Rattle.prime.proofs.Repeats.{Filled}
use Rattle.diagonal.proofs.Grid.repeat.Given as goal

abbrev pub invariant-loop-done : goal.invariant-loop-done
invariant-loop-done l = Filled l.self.width 512 l.row l.block l.done

abbrev pub decreases-loop-done : goal.decreases-loop-done
decreases-loop-done l = 512 - l.done
