use Rattle.std.proofs.Common.{length, ◌∙◌, subst}
use Rattle.member.specs.Meaning.{Good}
use Rattle.remap.specs.Places.{table_of}
use Rattle.remap.specs.Tables.{table_within}
use Rattle.remap.proofs.Calls.{read_through}
use Rattle.remap.proofs.RemapMember.read.Goals as goal

pub returns-clause-answered : goal.returns-clause-answered
returns-clause-answered g c =
    let s = c.args.self.now in
    c.read.ensures.answered
    ∙ read_through (table_of s.moves) (g.M.Member.meaning (g.M.Member.state s.below)) (table_within s.moves) c.args.block _
    (subst (λ k. Good k c.args.block (length c.args.buffer.now)) c.count.ensures.value c.in_ok-admit.ensures.good) _ c.place-at.ensures.value
