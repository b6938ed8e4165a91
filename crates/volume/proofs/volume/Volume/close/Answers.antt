use Rattle.std.proofs.Common.{sym, subst}
use Rattle.contents.specs.Records.{Records}
use Rattle.contents.specs.Rebuilds.{FitsOver}
use Rattle.contents.proofs.Rebuilding.{closes}
use Rattle.volume.specs.Volumes.{shape, members, records}
use Rattle.volume.proofs.Answering.{volume_valid}
use Rattle.volume.proofs.volume.Volume.close.Goals as goal

pub returns : goal.returns
returns g c =
    let v = c.args.self.now in
    let M = members g.B.Bank v in
    let R = records v in
    let V = shape g.C.Code g.L.Layout v in
    let valid = volume_valid g.C.Code g.L.Layout g.met.C.Code.lawful g.met.L.Layout.lawful v in
    let i = c.args.order.slot in
    record {
      answered = c.meet.ensures.answered;
      bank = c.meet.ensures.bank;
      records = c.meet.ensures.records;
      kept = c.meet.ensures.kept;
      right = subst (λ (P : Records). FitsOver V M R M P) (sym c.meet.ensures.records) (closes V valid M R i);
    }
