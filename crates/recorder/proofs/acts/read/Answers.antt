use Rattle.std.proofs.Common.{refl, ap}
use Rattle.contents.specs.Refusals.{told}
use Rattle.history.specs.Calls.Call.{read}
use Rattle.history.specs.Calls.Answer.{bytes, refused}
use Rattle.script.specs.declared.parts.Act.TheVariants.{Read}
use Rattle.recorder.proofs.Running.{one_call, refused_line_of}
use Rattle.recorder.proofs.acts.read.Goals as goal

pub returns : goal.returns
returns g c = record {
  did = one_call g.V.AnyVolume c.args.volume.now c.read.new.self (Read c.args.block) _ (read c.args.block 512) (bytes c.read.new.buffer) _ refl (λ _ _ x. x) c.read.ensures.same (ap (λ n. (0, n)) c.from.ensures) c.in_ok-read.ensures.goes;
}

pub returns-in_err-read : goal.returns-in_err-read
returns-in_err-read g c =
    let e = c.in_err-read.field-0.0 in record {
      did = one_call g.V.AnyVolume c.args.volume.now c.read.new.self (Read c.args.block) _ (read c.args.block 512) (refused (told e)) _ refl (λ _ _ x. x) c.read.ensures.same (refused_line_of _ e c.from_residual.ensures) c.in_err-read.ensures.goes;
    }
