use Rattle.volume.proofs.Surveying.{Told}
use Rattle.volume.specs.Grids.{columns_on}
use Rattle.volume.specs.Slots.{slots_in}
use Rattle.volume.proofs.grid.Grid.survey.Given as goal

abbrev pub invariant-loop-t : goal.invariant-loop-t
invariant-loop-t g l = Told (columns_on g.L.Layout l.self (slots_in g.B.Bank l.bank) l.s) l.t l.lost l.missing
