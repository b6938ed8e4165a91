use Rattle.std.proofs.Common.{Some, None, refl}
use Rattle.contents.specs.Refusals.{told}
use Rattle.history.specs.Calls.Answer.{number, refused}
use Rattle.recorder.proofs.Running.{refused_line_of, rebuild_refused, rebuild_done}
use Rattle.recorder.proofs.acts.rebuild.Goals as goal

pub returns-in_err-order : goal.returns-in_err-order
returns-in_err-order g c =
    let e = c.in_err-order.field-0.0 in
    record { did = rebuild_refused g.V.AnyVolume c.args.volume.now c.open.new.self c.args.slot c.args.most e _ c.open.ensures.same (refused_line_of _ e c.from_residual.ensures) c.in_err-order.ensures.goes }

pub returns-in_err-stepped : goal.returns-in_err-stepped
returns-in_err-stepped g c =
    let e = c.in_err-stepped.field-0.0 in
    record {
      did = rebuild_done g.V.AnyVolume c.args.volume.now c.open.new.self c.steps-stepped.new.volume c.close-closed.new.self c.args.slot c.args.most _ (Some (told e)) _ _
          c.open.ensures.same c.steps-stepped.ensures.same c.close-closed.ensures.same c.in_ok-order.ensures.order (refused_line_of _ e c.from_residual-in_err-stepped.ensures)
          c.in_ok-order.ensures.goes c.in_err-stepped.ensures.steps c.close-closed.ensures.goes;
    }

pub returns-in_err-closed : goal.returns-in_err-closed
returns-in_err-closed g c =
    let e = c.in_err-closed.field-0.0 in
    record {
      did = rebuild_done g.V.AnyVolume c.args.volume.now c.open.new.self c.steps-stepped.new.volume c.close-closed.new.self c.args.slot c.args.most _ None (refused (told e)) _
          c.open.ensures.same c.steps-stepped.ensures.same c.close-closed.ensures.same c.in_ok-order.ensures.order (refused_line_of _ e c.from_residual-in_err-closed.ensures)
          c.in_ok-order.ensures.goes c.in_ok-stepped.ensures.steps c.in_err-closed.ensures.goes;
    }

pub returns : goal.returns
returns g c = record {
  did = rebuild_done g.V.AnyVolume c.args.volume.now c.open.new.self c.steps-stepped.new.volume c.close-closed.new.self c.args.slot c.args.most _ None (number _) _
      c.open.ensures.same c.steps-stepped.ensures.same c.close-closed.ensures.same c.in_ok-order.ensures.order refl
      c.in_ok-order.ensures.goes c.in_ok-stepped.ensures.steps c.in_ok-closed.ensures.goes;
}
