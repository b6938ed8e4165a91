use Rattle.std.proofs.Common.{is_some, sym, ap, ◌∙◌, subst}
use Rattle.parity.specs.Ways.{recovered}
use Rattle.bank.specs.Slots.{Slots}
use Rattle.volume.proofs.Gathering.{loaded}
use Rattle.volume.proofs.Answering.{or_here}
use Rattle.volume.specs.Grids.{width, columns_on}
use Rattle.volume.specs.Slots.{slots_in, Surveyed}
use Rattle.volume.proofs.grid.Grid.fetch.Goals as goal

pub returns-then-load : goal.returns-then-load
returns-then-load g c =
    let o = columns_on g.L.Layout c.args.self.now (slots_in g.B.Bank c.args.bank.now) c.args.s c.args.t in
    let h = loaded o c.args.into.now c.load.new.into c.if-load.ensures.current c.load.ensures.after in
    record { same = c.load.ensures.same; value = c.load.ensures.after ∙ or_here o c.load.new.into _ _ h }

pub rebuild-requires : goal.rebuild-requires
rebuild-requires g c =
    let cols = λ (ms : Slots). columns_on g.L.Layout c.args.self.now ms c.args.s in
    record {
      surveyed = subst (λ (ms : Slots). Surveyed (cols ms) (width c.args.self.now) c.args.survey) (sym c.load.ensures.same) c.requires.surveyed;
      missing = ap (λ (ms : Slots). is_some (cols ms c.args.t)) c.load.ensures.same ∙ sym c.if-load.ensures.current;
    }

pub returns : goal.returns
returns g c =
    let C = g.C.Code.coding c.args.self.now.code.now in
    let cols = λ (ms : Slots). columns_on g.L.Layout c.args.self.now ms c.args.s in
    record {
      same = c.rebuild.ensures.same ∙ c.load.ensures.same;
      value = c.rebuild.ensures.value ∙ ap (λ (ms : Slots). recovered C (width c.args.self.now) (cols ms) c.args.t) c.load.ensures.same;
    }
