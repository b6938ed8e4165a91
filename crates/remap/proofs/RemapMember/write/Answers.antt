use Rattle.std.proofs.Common.{sym, subst, arith}
use Rattle.std.proofs.lemmas.Grind.{common_steps}
use Rattle.member.specs.Changes.{Written}
use Rattle.remap.specs.Places.{table_of}
use Rattle.remap.specs.Remapped.{layer, layer_meaning}
use Rattle.remap.specs.Tables.{table_within}
use Rattle.remap.specs.Laws.{layer_writes}
use Rattle.remap.proofs.RemapMember.write.Goals as goal

pub returns-clause-exact : goal.returns-clause-exact
returns-clause-exact g c = grind (arith, common_steps)

pub returns-clause-after : goal.returns-clause-after
returns-clause-after g c =
    let M = g.M.Member in
    let s = c.args.self.now in
    let x = layer (M.state s.below) (table_of s.moves) in
    let b = c.args.block in
    let v = c.args.bytes.now in
    subst (λ y. Written (layer_meaning M.meaning x) b v (layer_meaning M.meaning y)) (sym (returns-clause-exact g c))
    (layer_writes M.sound M.meaning M.seen M.wrote M.ticked M.renewed g.met.M.Member.lawful x b v
    (record { below = g.met.M.Member.holds s.below; within = table_within s.moves }))
