use Rattle.std.proofs.Common.{ℕ, is_ok, Err, Result, sym, ap, ◌∙◌}
use Rattle.std.proofs.lemmas.Result.{err_from_is_err_and}
use Rattle.std.proofs.lemmas.Bool.{true≢false, false≢true, cond-false}
use Rattle.contents.specs.declared.Refusal.{Refusal}
use Rattle.contents.specs.Refusals.{Told, outcome, answering}
use Rattle.contents.specs.Rebuilds.{ReplaceChanges}
use Rattle.contents.proofs.Rebuilding.{replaces}
use Rattle.volume.specs.Slots.{members_in}
use Rattle.volume.specs.Volumes.{shape, members, records}
use Rattle.volume.proofs.Answering.{volume_valid}
use Rattle.volume.proofs.Rebuilding.{answering_ok, answering_err, renewed_moved}
use Rattle.volume.proofs.volume.Volume.replace.Goals as goal

pub returns-in_err-meet : goal.returns-in_err-meet
returns-in_err-meet g c =
    let v = c.args.self.now in
    let M = members g.B.Bank v in
    let R = records v in
    let V = shape g.C.Code g.L.Layout v in
    let valid = volume_valid g.C.Code g.L.Layout g.met.C.Code.lawful g.met.L.Layout.lawful v in
    let i = c.args.slot in
    let Q = records c.meet.new.self in
    let p = err_from_is_err_and c.from_residual.result c.from_residual.ensures.1 in
    let a = sym (ap outcome c.in_err-meet.was) ∙ c.meet.ensures.answered in
    let N = members g.B.Bank c.meet.new.self in
    let w : ReplaceChanges V M R i N Q = record {
      taken = λ t. absurd (false≢true (ap (λ (r : Result ℕ Told). is_ok (answering tt r)) a ∙ t));
      refused = λ _. ap (members_in g.B.Bank) c.meet.ensures.bank;
      records = c.meet.ensures.records;
    } in
    record {
      answered = ap outcome p.1 ∙ ap (λ (x : Refusal). outcome (Err x)) p.2 ∙ answering_err tt _ _ a;
      exact = ap g.B.Bank.state c.meet.ensures.bank ∙ sym (cond-false _ _ _ (ap is_ok p.1));
      changes = w;
      kept = record { code = c.meet.ensures.kept.code; layout = c.meet.ensures.kept.layout; size = c.meet.ensures.kept.size };
      right = replaces V valid M R i N Q w;
    }

pub returns : goal.returns
returns g c =
    let v = c.args.self.now in
    let M = members g.B.Bank v in
    let R = records v in
    let V = shape g.C.Code g.L.Layout v in
    let valid = volume_valid g.C.Code g.L.Layout g.met.C.Code.lawful g.met.L.Layout.lawful v in
    let i = c.args.slot in
    let Q = records c.meet.new.self in
    let N = members_in g.B.Bank c.fresh.new.self in
    let a = sym (ap outcome c.in_ok-meet.was) ∙ c.meet.ensures.answered in
    let w : ReplaceChanges V M R i N Q = record {
      taken = λ _. renewed_moved _ _ i (rw c.meet.ensures.bank at c.fresh.ensures.after);
      refused = λ t. absurd (true≢false (ap (λ (r : Result ℕ Told). is_ok (answering tt r)) a ∙ t));
      records = c.meet.ensures.records;
    } in
    record {
      answered = answering_ok tt _ _ a;
      exact = rw c.meet.ensures.bank at c.fresh.ensures.exact;
      changes = w;
      kept = record { code = c.meet.ensures.kept.code; layout = c.meet.ensures.kept.layout; size = c.meet.ensures.kept.size };
      right = replaces V valid M R i N Q w;
    }
