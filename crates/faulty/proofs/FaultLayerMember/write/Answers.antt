use Rattle.std.proofs.Common.{◌≡◌, ◌<◌, length, Some, None, sym, ap, ◌∙◌, subst, arith}
use Rattle.member.specs.Faults.{numbers}
use Rattle.member.specs.Changes.{Written}
use Rattle.faultplan.specs.Layers.{planned, layer_meaning}
use Rattle.faultplan.proofs.Layers.{same_planned, layered_write, wrote_settled, layer_writes}
use Rattle.faulty.proofs.FaultLayerMember.write.Goals as goal

pub returns-in-Ok : goal.returns-in-Ok
returns-in-Ok g c =
    let M = g.M.Member in
    let self = c.args.self.now in
    let x = planned (M.state self.below) self.plan in
    let b = c.args.block in
    let v = c.args.bytes.now in
    let whole : length v ≡ 512 = c.in_ok-admit.ensures.good.sized in
    let there : b < (M.meaning x.below).count = omega (arith, c.count.ensures.value, c.in_ok-admit.ensures.good.there) in
    let pass = sym c.in-Ok.ensures.answered in
    let exact = c.pass.ensures.exact ∙ sym (wrote_settled M.meaning M.wrote x b v whole there None pass) in
    record {
      answered = c.pass.ensures.answered ∙ sym (layered_write M.meaning M.wrote x b v whole there None pass);
      exact = exact;
      after =
          subst (λ y. Written (layer_meaning M.meaning x) b v (layer_meaning M.meaning y)) (sym exact)
          (layer_writes M.meaning M.wrote x b v (g.met.M.Member.lawful.writes x.below b v (g.met.M.Member.holds self.below)));
    }

pub returns-in-Err : goal.returns-in-Err
returns-in-Err g c =
    let M = g.M.Member in
    let self = c.args.self.now in
    let x = planned (M.state self.below) self.plan in
    let b = c.args.block in
    let v = c.args.bytes.now in
    let f = Some (numbers c.in-Err.fault) in
    let whole : length v ≡ 512 = c.in_ok-admit.ensures.good.sized in
    let there : b < (M.meaning x.below).count = omega (arith, c.count.ensures.value, c.in_ok-admit.ensures.good.there) in
    let shut = sym c.in-Err.ensures.answered in
    let exact =
    same_planned (ap M.state c.stop.ensures.below) c.stop.ensures.plan
    ∙ sym (wrote_settled M.meaning M.wrote x b v whole there f shut) in
    record {
      answered = sym (layered_write M.meaning M.wrote x b v whole there f shut);
      exact = exact;
      after =
          subst (λ y. Written (layer_meaning M.meaning x) b v (layer_meaning M.meaning y)) (sym exact)
          (layer_writes M.meaning M.wrote x b v (g.met.M.Member.lawful.writes x.below b v (g.met.M.Member.holds self.below)));
    }
