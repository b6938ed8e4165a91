use Rattle.std.proofs.Common.{ℕ, ◌<◌, ◌&&◌, ltb, Err, sym, refl, ap, ◌∙◌, subst, arith}
use Rattle.std.proofs.lemmas.Result.{err_from_is_err_and}
use Rattle.contents.specs.declared.Refusal.{Refusal}
use Rattle.contents.specs.Refusals.{told, outcome}
use Rattle.contents.specs.Rebuilds.{fault_of}
use Rattle.contents.specs.Shapes.{Roomy}
use Rattle.contents.specs.Records.{frontiers, is_open}
use Rattle.contents.proofs.Rebuilding.{rebuilds, rebuild_losses}
use Rattle.volume.specs.Columns.{ColumnRebuilt}
use Rattle.volume.specs.declared.size.Size.{Size}
use Rattle.volume.specs.Grids.{grid_shape, grid_frontiers}
use Rattle.volume.specs.Slots.{members_in, records_of}
use Rattle.volume.specs.Volumes.{shape, members, records}
use Rattle.volume.proofs.Answering.{volume_valid, as_volume}
use Rattle.volume.proofs.Rebuilding.{step_failed, step_made, carried, raised_faultless, open_some}
use Rattle.volume.proofs.volume.Volume.step.Goals as goal

pub returns-in_err-rebuild_column : goal.returns-in_err-rebuild_column
returns-in_err-rebuild_column g c =
    let v = c.args.self.now in
    let M = members g.B.Bank v in
    let R = records v in
    let V = shape g.C.Code g.L.Layout v in
    let valid = volume_valid g.C.Code g.L.Layout g.met.C.Code.lawful g.met.L.Layout.lawful v in
    let i = c.args.order.now.slot in
    let N = members_in g.B.Bank c.rebuild_column.new.bank in
    let r = c.rebuild_column.result in
    let x = c.of-grid.result in
    let ez = c.of-grid.ensures.size in
    let opened = rw c.of-grid.ensures.table at (rw ez at c.in-Some.ensures.value) in
    let here = open_some (ltb i V.slots && is_open (R i).state) (R i).frontier c.in-Some.stripe opened in
    let left : (R i).frontier < V.stripes = let at = here.1 in omega (arith, c.if-stripe-stripes.false, ap (λ (z : Size). z.stripes) ez) in
    let d = as_volume g.C.Code g.L.Layout x v c.of-grid.ensures.code c.of-grid.ensures.layout ez c.of-grid.ensures.table (λ W F. ColumnRebuilt W M F (R i).frontier i N r)
    (subst (λ (s : ℕ). ColumnRebuilt (grid_shape g.C.Code g.L.Layout x) M (grid_frontiers x) s i N r) (sym here.1) c.rebuild_column.ensures.rebuilt) in
    let was = c.in_err-rebuild_column.was in
    let p = err_from_is_err_and c.from_residual.result c.from_residual.ensures.1 in
    let done = λ (room : Roomy V M). step_failed V M R i here.0 left N r d room (told c.in_err-rebuild_column.field-0.0) (sym (ap outcome was)) in
    record {
      fault = λ room. ap (fault_of {U = ℕ}) p.1 ∙ ap (λ (x : Refusal). fault_of {U = Unit} (Err x)) p.2 ∙ sym (ap (fault_of {U = Unit}) was) ∙ carried V M R i here.0 left N r d room;
      answered = λ room. ap outcome p.1 ∙ ap (λ (x : Refusal). outcome (Err x)) p.2 ∙ (done room).answered;
      changes = λ room. (done room).changes;
      kept = record { code = refl; layout = refl; size = refl };
      right = λ room. rebuilds V valid M R room i N R (done room).changes;
      loss = rebuild_losses V M R i;
    }

pub returns : goal.returns
returns g c =
    let v = c.args.self.now in
    let M = members g.B.Bank v in
    let R = records v in
    let V = shape g.C.Code g.L.Layout v in
    let valid = volume_valid g.C.Code g.L.Layout g.met.C.Code.lawful g.met.L.Layout.lawful v in
    let i = c.args.order.now.slot in
    let N = members_in g.B.Bank c.rebuild_column.new.bank in
    let r = c.rebuild_column.result in
    let x = c.of-grid.result in
    let ez = c.of-grid.ensures.size in
    let opened = rw c.of-grid.ensures.table at (rw ez at c.in-Some.ensures.value) in
    let here = open_some (ltb i V.slots && is_open (R i).state) (R i).frontier c.in-Some.stripe opened in
    let left : (R i).frontier < V.stripes = let at = here.1 in omega (arith, c.if-stripe-stripes.false, ap (λ (z : Size). z.stripes) ez) in
    let d = as_volume g.C.Code g.L.Layout x v c.of-grid.ensures.code c.of-grid.ensures.layout ez c.of-grid.ensures.table (λ W F. ColumnRebuilt W M F (R i).frontier i N r)
    (subst (λ (s : ℕ). ColumnRebuilt (grid_shape g.C.Code g.L.Layout x) M (grid_frontiers x) s i N r) (sym here.1) c.rebuild_column.ensures.rebuilt) in
    let was = c.in_ok-rebuild_column.was in
    let Q = records_of c.change.new.self.rows in
    let raised = rw ez at c.change.ensures.records in
    let answers = rw ez at c.change.ensures.answered in
    let done = λ (room : Roomy V M). step_made V M R i here.0 left N r d room (sym (ap outcome was)) Q (outcome c.change.result) raised answers in
    record {
      fault = λ room. raised_faultless V M R i here.0 left N r d c.change.result answers ∙ sym (ap (fault_of {U = Unit}) was) ∙ carried V M R i here.0 left N r d room;
      answered = λ room. (done room).answered;
      changes = λ room. (done room).changes;
      kept = record { code = refl; layout = refl; size = refl };
      right = λ room. rebuilds V valid M R room i N Q (done room).changes;
      loss = rebuild_losses V M R i;
    }
