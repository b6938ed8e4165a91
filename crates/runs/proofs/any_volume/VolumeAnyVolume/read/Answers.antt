use Rattle.std.proofs.Common.{length, refl, ap, ◌∙◌}
use Rattle.contents.specs.Records.{frontiers}
use Rattle.contents.specs.Shapes.{stripe_of, column_of, recovered_at}
use Rattle.contents.specs.Answers.{read_outcome}
use Rattle.history.specs.Calls.{answered}
use Rattle.history.specs.Calls.Answer.{bytes}
use Rattle.volume.specs.Slots.{members_of}
use Rattle.volume.specs.Volumes.{shape}
use Rattle.runs.specs.Told.{state}
use Rattle.runs.proofs.Going.{records_same, goes_by, handed_out}
use Rattle.runs.proofs.any_volume.VolumeAnyVolume.read.Goals as goal

pub returns-clause-makes : goal.returns-clause-makes
returns-clause-makes g c =
    let V = shape g.C.Code g.L.Layout c.args.self.now in
    let σ = state g.B.Bank c.args.self.now in
    let a = c.args.block in
    let old = c.args.buffer.now in
    let new = c.read.new.buffer in
    record {
      answer = ap (answered (λ _. bytes new)) c.read.ensures.answered
          ∙ handed_out (read_outcome V σ.members (frontiers σ.records) a (length old)) new (recovered_at V σ.members (frontiers σ.records) (stripe_of V a) (column_of V a)) old c.read.ensures.after;
      changes = (ap members_of c.read.ensures.same, records_same c.args.self.now c.read.new.self c.read.ensures.kept.table);
    }

pub returns-clause-goes : goal.returns-clause-goes
returns-clause-goes g c = goes_by _ _ _ _ _ (returns-clause-makes g c) refl
