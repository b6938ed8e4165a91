use Rattle.std.proofs.Common.{sym, subst}
use Rattle.member.specs.Changes.{Ticked}
use Rattle.faultplan.specs.Layers.{planned, layer_meaning}
use Rattle.faultplan.proofs.Layers.{layer_lawful}
use Rattle.faulty.proofs.FaultLayerMember.tick.Goals as goal

pub returns-clause-exact : goal.returns-clause-exact
returns-clause-exact g c = cc

pub returns-clause-after : goal.returns-clause-after
returns-clause-after g c =
    let M = g.M.Member in
    let self = c.args.self.now in
    let x = planned (M.state self.below) self.plan in
    let law = layer_lawful M.sound M.meaning M.seen M.wrote M.ticked M.renewed g.met.M.Member.lawful in
    subst (λ y. Ticked (layer_meaning M.meaning x) (layer_meaning M.meaning y)) (sym (returns-clause-exact g c))
    (law.ticks x (g.met.M.Member.holds self.below))
