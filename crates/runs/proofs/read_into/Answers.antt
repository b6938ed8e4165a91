use Rattle.std.proofs.Common.{refl, rules}
use Rattle.contents.specs.Refusals.{told}
use Rattle.history.specs.Calls.Call.{read}
use Rattle.history.specs.Calls.Answer.{refused}
use Rattle.runs.specs.Told.{event, GoesOn}
use Rattle.runs.proofs.Going.{no_bytes, goes, unsized}
use Rattle.runs.proofs.read_into.Goals as goal

pub returns-in_err-read : goal.returns-in_err-read
returns-in_err-read g c =
    let any = g.V.AnyVolume in
    let v = c.args.volume.now in
    let w = c.read.new.self in
    let q = read c.args.block c.args.len in
    let r = refused (told c.in_err-read.field-0.0) in
    let goes : GoesOn (any.shape v) (any.state v) (event q r) (any.state w) =
    goes _ _ _ q r (no_bytes q refl) (λ _. unsized _ _ _ c.args.block c.args.len r c.if-len-ne-BLOCK.true c.in_err-read.ensures.makes) in
    record { obeyed = record { same = c.read.ensures.same; goes = search rules; made = search rules } }
