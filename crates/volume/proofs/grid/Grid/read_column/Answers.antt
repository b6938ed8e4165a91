use Rattle.std.proofs.Common.{◌≡◌, ◌+◌, ◌<◌, ◌≤◌, is_some, Err, sym, ap, ◌∙◌, arith}
use Rattle.parity.specs.Stripe.{missing}
use Rattle.parity.specs.Ways.{recovered}
use Rattle.bank.specs.Slots.{Slots}
use Rattle.contents.specs.Columns.{loss_of}
use Rattle.contents.specs.Refusals.{with_loss}
use Rattle.contents.specs.declared.Loss.{Loss}
use Rattle.volume.proofs.Gathering.{loaded, unloaded}
use Rattle.volume.proofs.Answering.{read_here, read_two, read_gone, or_here, or_none}
use Rattle.volume.specs.Grids.{width, grid_frontiers, columns_on}
use Rattle.volume.specs.Slots.{members_of, slots_in}
use Rattle.volume.proofs.grid.Grid.read_column.Goals as goal

pub returns-then-load : goal.returns-then-load
returns-then-load g c =
    let o = columns_on g.L.Layout c.args.self.now (slots_in g.B.Bank c.args.bank.now) c.args.s c.args.t in
    let h = loaded o c.args.into.now c.load.new.into c.if-load.ensures.current c.load.ensures.after in
    record { read = record { answered = read_here o c.load.new.into _ _ h; after = c.load.ensures.after ∙ or_here o c.load.new.into _ _ h }; same = c.load.ensures.same }

pub rebuild-requires : goal.rebuild-requires
rebuild-requires g c =
    let cols = λ (ms : Slots). columns_on g.L.Layout c.args.self.now ms c.args.s in
    record {
      surveyed = c.survey-survey.ensures.value;
      missing = ap (λ (ms : Slots). is_some (cols ms c.args.t)) c.load.ensures.same ∙ sym c.if-load.ensures.current;
    }

pub returns-then-survey-gt2 : goal.returns-then-survey-gt2
returns-then-survey-gt2 g c =
    let k = width c.args.self.now in
    let F = grid_frontiers c.args.self.now in
    let cols = λ (ms : Slots). columns_on g.L.Layout c.args.self.now ms c.args.s in
    let ms = slots_in g.B.Bank c.args.bank.now in
    let o = cols ms c.args.t in
    let h = unloaded o c.if-load.ensures.current in
    let m : c.survey-survey.result.missing ≡ missing (cols ms) (k + 2) = c.survey-survey.ensures.value.count ∙ ap (λ (x : Slots). missing (cols x) (k + 2)) c.load.ensures.same in
    let l : 2 < missing (cols ms) (k + 2) = omega arith in
    let e : c.loss.result ≡ loss_of (members_of ms) F c.args.self.now.size.slots c.args.s = c.loss.ensures.value ∙ ap (λ (x : Slots). loss_of (members_of x) F c.args.self.now.size.slots c.args.s) c.load.ensures.same in
    record {
      read = record {
        answered = ap (λ (x : Loss). Err (with_loss 4 x)) e ∙ read_gone o (missing (cols ms) (k + 2)) (with_loss 4 (loss_of (members_of ms) F c.args.self.now.size.slots c.args.s)) h l;
        after = c.load.ensures.after ∙ or_none o c.args.into.now h;
      };
      same = c.load.ensures.same;
    }

pub returns : goal.returns
returns g c =
    let C = g.C.Code.coding c.args.self.now.code.now in
    let k = width c.args.self.now in
    let cols = λ (ms : Slots). columns_on g.L.Layout c.args.self.now ms c.args.s in
    let ms = slots_in g.B.Bank c.args.bank.now in
    let m : c.survey-survey.result.missing ≡ missing (cols ms) (k + 2) = c.survey-survey.ensures.value.count ∙ ap (λ (x : Slots). missing (cols x) (k + 2)) c.load.ensures.same in
    let l : missing (cols ms) (k + 2) ≤ 2 = omega arith in
    record {
      read = record {
        answered = read_two (cols ms c.args.t) (missing (cols ms) (k + 2)) _ l;
        after = c.rebuild.ensures.value ∙ ap (λ (x : Slots). recovered C k (cols x) c.args.t) c.load.ensures.same;
      };
      same = c.rebuild.ensures.same ∙ c.load.ensures.same;
    }
