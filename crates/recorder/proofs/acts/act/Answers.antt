use Rattle.std.proofs.Common.{refl}
use Rattle.contents.specs.Refusals.{told}
use Rattle.history.specs.Calls.Call.{tick, scrub, replace}
use Rattle.history.specs.Calls.Answer.{done, counts, refused}
use Rattle.script.specs.declared.parts.Act.TheVariants.{Tick, Scrub, Replace}
use Rattle.recorder.proofs.Running.{one_call, refused_line_of}
use Rattle.recorder.proofs.acts.act.Goals as goal

pub returns-in-Tick : goal.returns-in-Tick
returns-in-Tick g c = record {
  did = one_call g.V.AnyVolume c.args.volume.now c.tick.new.self Tick _ tick done _ c.in-Tick.ensures (λ _ _ x. x) c.tick.ensures.same refl c.tick.ensures.goes;
}

pub returns-in_ok-mended-in-Scrub : goal.returns-in_ok-mended-in-Scrub
returns-in_ok-mended-in-Scrub g c = record {
  did = one_call g.V.AnyVolume c.args.volume.now c.scrub.new.self (Scrub c.in-Scrub.stripe) _ (scrub c.in-Scrub.stripe) (counts _ _ _) _ c.in-Scrub.ensures (λ _ _ x. x) c.scrub.ensures.same refl c.in_ok-mended-in-Scrub.ensures.goes;
}

pub returns-in_err-mended-in-Scrub : goal.returns-in_err-mended-in-Scrub
returns-in_err-mended-in-Scrub g c =
    let e = c.in_err-mended-in-Scrub.field-0.0 in record {
      did = one_call g.V.AnyVolume c.args.volume.now c.scrub.new.self (Scrub c.in-Scrub.stripe) _ (scrub c.in-Scrub.stripe) (refused (told e)) _ c.in-Scrub.ensures (λ _ _ x. x) c.scrub.ensures.same (refused_line_of _ e c.from_residual.ensures) c.in_err-mended-in-Scrub.ensures.goes;
    }

pub returns-in_ok-replace-in-Replace : goal.returns-in_ok-replace-in-Replace
returns-in_ok-replace-in-Replace g c = record {
  did = one_call g.V.AnyVolume c.args.volume.now c.replace.new.self (Replace c.in-Replace.slot) _ (replace c.in-Replace.slot) done _ c.in-Replace.ensures (λ _ _ x. x) c.replace.ensures.same refl c.in_ok-replace-in-Replace.ensures.goes;
}

pub returns-in_err-replace-in-Replace : goal.returns-in_err-replace-in-Replace
returns-in_err-replace-in-Replace g c =
    let e = c.in_err-replace-in-Replace.field-0.0 in record {
      did = one_call g.V.AnyVolume c.args.volume.now c.replace.new.self (Replace c.in-Replace.slot) _ (replace c.in-Replace.slot) (refused (told e)) _ c.in-Replace.ensures (λ _ _ x. x) c.replace.ensures.same (refused_line_of _ e c.from_residual-in_err-replace-in-Replace.ensures) c.in_err-replace-in-Replace.ensures.goes;
    }
