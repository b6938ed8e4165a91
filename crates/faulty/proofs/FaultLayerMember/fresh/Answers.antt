use Rattle.std.proofs.Common.{sym, subst}
use Rattle.member.specs.Changes.{Renewed}
use Rattle.faultplan.specs.Layers.{planned, layer_meaning}
use Rattle.faultplan.proofs.Layers.{layer_lawful, same_planned}
use Rattle.faulty.proofs.FaultLayerMember.fresh.Goals as goal

pub returns : goal.returns
returns g c =
    let M = g.M.Member in
    let self = c.args.self.now in
    let x = planned (M.state self.below) self.plan in
    let law = layer_lawful M.sound M.meaning M.seen M.wrote M.ticked M.renewed g.met.M.Member.lawful in
    let exact = same_planned c.fresh.ensures.exact c.tell.ensures.after in
    record {
      exact = exact;
      after =
          subst (λ y. Renewed (layer_meaning M.meaning x) (layer_meaning M.meaning y)) (sym exact)
          (law.renews x (g.met.M.Member.holds self.below));
    }
