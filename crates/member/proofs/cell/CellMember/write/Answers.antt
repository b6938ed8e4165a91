use Rattle.std.proofs.Common.{sym, subst, arith}
use Rattle.std.proofs.lemmas.Grind.{common_steps}
use Rattle.member.specs.Changes.{Written}
use Rattle.member.specs.Runs.{cell_meaning}
use Rattle.member.specs.RunsLemmas.{cell_writes}
use Rattle.member.proofs.cell.CellMember.write.Goals as goal

pub returns-clause-exact : goal.returns-clause-exact
returns-clause-exact c = grind (arith, common_steps)

pub returns-clause-after : goal.returns-clause-after
returns-clause-after c =
    let x = c.args.self.now in
    subst (λ ys. Written (cell_meaning x.bytes) c.args.block c.args.bytes.now (cell_meaning ys)) (sym (returns-clause-exact c))
    (cell_writes x.bytes x.long c.args.block c.args.bytes.now)
