use Rattle.std.proofs.Common.{replicate, refl}
use Rattle.contents.specs.Refusals.{told}
use Rattle.history.specs.Calls.Call.{write}
use Rattle.history.specs.Calls.Answer.{number, refused}
use Rattle.script.specs.declared.parts.Act.TheVariants.{Write}
use Rattle.recorder.proofs.Running.{one_call, refused_line_of}
use Rattle.recorder.proofs.acts.write.Goals as goal

pub returns : goal.returns
returns g c = record {
  did = one_call g.V.AnyVolume c.args.volume.now c.write.new.self (Write c.args.block c.args.byte) _ (write c.args.block (replicate 512 c.args.byte)) (number _) _ refl (λ _ _ x. x) c.write.ensures.same refl c.in_ok-write.ensures.goes;
}

pub returns-in_err-write : goal.returns-in_err-write
returns-in_err-write g c =
    let e = c.in_err-write.field-0.0 in record {
      did = one_call g.V.AnyVolume c.args.volume.now c.write.new.self (Write c.args.block c.args.byte) _ (write c.args.block (replicate 512 c.args.byte)) (refused (told e)) _ refl (λ _ _ x. x) c.write.ensures.same (refused_line_of _ e c.from_residual.ensures) c.in_err-write.ensures.goes;
    }
