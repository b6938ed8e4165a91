use Rattle.std.proofs.Common.{◌≡◌}
use Rattle.contents.specs.Columns.{loss_of}
use Rattle.volume.specs.Grids.{grid_frontiers}
use Rattle.volume.specs.Slots.{members_in}
use Rattle.volume.proofs.grid.Grid.loss.Given as goal

abbrev pub invariant-loop-slot : goal.invariant-loop-slot
invariant-loop-slot g l = l.loss ≡ loss_of (members_in g.B.Bank l.bank) (grid_frontiers l.self) l.slot l.s
