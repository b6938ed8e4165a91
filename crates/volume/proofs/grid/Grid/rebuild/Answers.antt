use Rattle.std.proofs.Common.{refl}
use Rattle.code.specs.Blocks.{zeros}
use Rattle.volume.proofs.Gathering.{rebuilt}
use Rattle.volume.specs.Grids.{width, columns_on}
use Rattle.volume.specs.Slots.{slots_in}
use Rattle.volume.proofs.grid.Grid.rebuild.Goals as goal

pub gather-requires : goal.gather-requires
unfolding zeros
gather-requires g c = record { empty = (refl, refl) }

pub returns : goal.returns
returns g c =
    let C = g.C.Code.coding c.args.self.now.code.now in
    let k = width c.args.self.now in
    let cols = columns_on g.L.Layout c.args.self.now (slots_in g.B.Bank c.args.bank.now) c.args.s in
    record {
      same = c.gather.ensures.same;
      value = rebuilt C k cols c.args.t c.args.survey.lost c.args.survey.p c.way-way.result c.args.self.now.fitting.reach c.requires.surveyed.lost c.requires.surveyed.p (rw c.width.ensures.value at c.way-way.ensures.value)
          c.gather.new.plain c.gather.new.mixed c.solve.new.plain c.solve.result c.requires.missing c.gather.auto.plain c.gather.auto.mixed
          c.gather.ensures.plain c.gather.ensures.mixed c.solve.ensures.answered c.solve.ensures.column;
    }
