use Rattle.std.proofs.Common.{◌∙◌, subst}
use Rattle.member.specs.Meaning.{Good}
use Rattle.remap.specs.Places.{table_of}
use Rattle.remap.specs.Tables.{table_within}
use Rattle.remap.proofs.Calls.{look_through}
use Rattle.remap.proofs.RemapMember.look.Goals as goal

pub returns : goal.returns
returns g c =
    let s = c.args.self.now in
    record {
      answered =
          c.look.ensures.answered
          ∙ look_through (table_of s.moves) (g.M.Member.meaning (g.M.Member.state s.below)) (table_within s.moves) c.args.block _
          (subst (λ k. Good k c.args.block 512) c.count.ensures.value c.in_ok-admit.ensures.good) _ c.place-at.ensures.value;
    }
