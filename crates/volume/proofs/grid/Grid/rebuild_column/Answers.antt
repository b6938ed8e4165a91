use Rattle.std.proofs.Common.{◌≡◌, ◌<◌, ap, ◌∙◌, arith}
use Rattle.contents.specs.Shapes.{missing_at, recovered_at}
use Rattle.volume.proofs.Rebuilding.{behind_missing, column_lossy, column_written}
use Rattle.volume.specs.Grids.{grid_shape, grid_frontiers}
use Rattle.volume.specs.Slots.{members_in, slots_in}
use Rattle.volume.proofs.grid.Grid.rebuild_column.Goals as goal

pub returns-then-survey-gt2 : goal.returns-then-survey-gt2
returns-then-survey-gt2 g c =
    let V = grid_shape g.C.Code g.L.Layout c.args.self.now in
    let M = members_in g.B.Bank c.args.bank.now in
    let F = grid_frontiers c.args.self.now in
    let e : c.survey-survey.result.missing ≡ missing_at V M F c.args.s = c.survey-survey.ensures.value.count in
    let l : 2 < missing_at V M F c.args.s = omega arith in
    record { rebuilt = column_lossy V M F c.args.s c.args.slot l c.loss.result c.loss.ensures.value }

pub rebuild-requires : goal.rebuild-requires
rebuild-requires g c =
    let x = c.args.self.now in
    let place = g.L.Layout.slot x.layout.now x.size.slots c.args.s in
    record {
      surveyed = c.survey-survey.ensures.value;
      missing = behind_missing (members_in g.B.Bank c.args.bank.now) (grid_frontiers x) c.args.s c.args.slot _
          (ap place c.column_of-t.ensures.value ∙ (g.met.L.Layout.lawful x.layout.now x.size.slots c.args.s).back c.args.slot c.requires.within.0) c.requires.behind;
    }

pub returns : goal.returns
returns g c =
    let V = grid_shape g.C.Code g.L.Layout c.args.self.now in
    let ms = slots_in g.B.Bank c.args.bank.now in
    let F = grid_frontiers c.args.self.now in
    let s = c.args.s in
    let j = c.args.slot in
    let e : c.survey-survey.result.missing ≡ missing_at V (members_in g.B.Bank c.args.bank.now) F s = c.survey-survey.ensures.value.count in
    record {
      rebuilt = column_written V ms F s j (omega arith) c.requires.within.0 c.requires.within.1 (slots_in g.B.Bank c.rebuild.new.bank) c.rebuild.ensures.same c.rebuild.new.into
          (c.rebuild.ensures.value ∙ ap (recovered_at V (members_in g.B.Bank c.args.bank.now) F s) c.column_of-t.ensures.value) c.rebuild.array_long
          (slots_in g.B.Bank c.write.new.self) c.write.ensures.after c.write.result c.write.ensures.answered c.lifted.result (record { answered = c.lifted.ensures.answered; fault = c.lifted.ensures.fault });
    }
