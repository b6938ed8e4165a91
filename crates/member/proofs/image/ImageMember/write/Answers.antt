use Rattle.std.proofs.Common.{sym, subst, arith}
use Rattle.std.proofs.lemmas.Grind.{common_steps}
use Rattle.member.specs.Changes.{Written}
use Rattle.member.specs.Runs.{image_meaning}
use Rattle.member.specs.RunsLemmas.{image_writes}
use Rattle.member.proofs.image.ImageMember.write.Goals as goal

pub returns-clause-exact : goal.returns-clause-exact
returns-clause-exact c = grind (arith, common_steps)

pub returns-clause-after : goal.returns-clause-after
returns-clause-after c =
    let xs = c.args.self.now.buffer.items in
    subst (λ ys. Written (image_meaning xs) c.args.block c.args.bytes.now (image_meaning ys)) (sym (returns-clause-exact c))
    (image_writes xs c.args.block c.args.bytes.now)
