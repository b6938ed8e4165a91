use Rattle.std.proofs.Common.{List, get_or, ap, ◌∙◌, arith}
use lib.ListN.{get_or-replicate}
use Rattle.contents.specs.declared.SlotRecord.{SlotRecord}
use Rattle.contents.specs.Records.{idle_at}
use Rattle.history.proofs.Logs.{kept_from_format}
use Rattle.volume.specs.Slots.{members_in}
use Rattle.volume.specs.Volumes.{shape}
use Rattle.runs.specs.Told.{state}
use Rattle.runs.proofs.format.Goals as goal

pub returns-clause-idle : goal.returns-clause-idle
returns-clause-idle g c =
    let S = (shape g.C.Code g.L.Layout c.format.result).stripes in
    let f = c.format.ensures in
    λ i l. let h = f.valid.most in ap (λ (rows : List SlotRecord). get_or rows i (idle_at 0)) f.table ∙ get_or-replicate 18 i (idle_at S) (idle_at 0) (omega arith)

pub returns-clause-kept : goal.returns-clause-kept
returns-clause-kept g c =
    let f = c.format.ensures in
    kept_from_format _ f.valid (state g.B.Bank c.format.result) (record {
      before = members_in g.B.Bank c.args.blank.bank;
      roomy = λ i l. let r = f.roomy i l in let q = f.counts i in omega arith;
      zeroed = f.changes;
      idle = returns-clause-idle g c;
    })
