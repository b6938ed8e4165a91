use Rattle.std.proofs.Common.{◌≡◌, ◌+◌, ◌<◌, All, IfSome, IsNone, take, drop, get_or, arith}
use Rattle.std.proofs.lemmas.Grind.{common_steps}
use Rattle.remap.proofs.Newest.{Other, newest_given}
use Rattle.remap.proofs.moves.Moves.given.Goals as goal

pub returns-clause-value : goal.returns-clause-value
returns-clause-value c =
    let x = c.args.self.now in
    let b = c.args.block in
    let found : IfSome c.rposition.result (λ i. get_or x.from i 0 ≡ b) = grind (arith, common_steps) in
    let low : IfSome c.rposition.result (λ i. i < x.used) = grind (arith, common_steps) in
    let later : IfSome c.rposition.result (λ i. All (Other b) (drop (i + 1) (take x.used x.from))) = grind (arith, common_steps) in
    let nothing : IsNone c.rposition.result → All (Other b) (take x.used x.from) = grind (arith, common_steps) in
    newest_given x.from b x.used (omega arith) c.rposition.result found low later nothing
