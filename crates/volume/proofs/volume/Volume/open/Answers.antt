use Rattle.std.proofs.Common.{Err, sym, ap, ◌∙◌, subst}
use Rattle.std.proofs.lemmas.Result.{err_from_is_err_and}
use Rattle.contents.specs.declared.Refusal.{Refusal}
use Rattle.contents.specs.Refusals.{outcome}
use Rattle.contents.specs.Records.{Records}
use Rattle.contents.specs.Rebuilds.{FitsOver}
use Rattle.contents.proofs.Rebuilding.{opens}
use Rattle.volume.specs.Volumes.{shape, members, records, ordered}
use Rattle.volume.proofs.Answering.{volume_valid}
use Rattle.volume.proofs.Rebuilding.{answering_ok, answering_err}
use Rattle.volume.proofs.volume.Volume.open.Goals as goal

pub returns-in_err-meet : goal.returns-in_err-meet
returns-in_err-meet g c =
    let v = c.args.self.now in
    let M = members g.B.Bank v in
    let R = records v in
    let V = shape g.C.Code g.L.Layout v in
    let valid = volume_valid g.C.Code g.L.Layout g.met.C.Code.lawful g.met.L.Layout.lawful v in
    let i = c.args.slot in
    let p = err_from_is_err_and c.from_residual.result c.from_residual.ensures.1 in
    record {
      answered = ap ordered p.1 ∙ ap (λ (x : Refusal). ordered (Err x)) p.2 ∙ answering_err i _ _ (sym (ap outcome c.in_err-meet.was) ∙ c.meet.ensures.answered);
      bank = c.meet.ensures.bank;
      records = c.meet.ensures.records;
      kept = c.meet.ensures.kept;
      right = subst (λ (P : Records). FitsOver V M R M P) (sym c.meet.ensures.records) (opens V valid M R i);
    }

pub returns : goal.returns
returns g c =
    let v = c.args.self.now in
    let M = members g.B.Bank v in
    let R = records v in
    let V = shape g.C.Code g.L.Layout v in
    let valid = volume_valid g.C.Code g.L.Layout g.met.C.Code.lawful g.met.L.Layout.lawful v in
    let i = c.args.slot in
    record {
      answered = answering_ok i _ _ (sym (ap outcome c.in_ok-meet.was) ∙ c.meet.ensures.answered);
      bank = c.meet.ensures.bank;
      records = c.meet.ensures.records;
      kept = c.meet.ensures.kept;
      right = subst (λ (P : Records). FitsOver V M R M P) (sym c.meet.ensures.records) (opens V valid M R i);
    }
