use Rattle.std.proofs.Common.{length, ◌∙◌}
use Rattle.member.specs.Meaning.{write_refusal}
use Rattle.member.specs.Changes.{Written}
use Rattle.bank.specs.ChainsLemmas.{on_rest, change_rest, changed_rest}
use Rattle.bank.proofs.chain.LinkBank.write.Goals as goal

pub returns : goal.returns
returns g c =
    let i = c.args.slot in
    let b = c.args.block in
    let v = c.args.bytes.now in
    let later = c.if-slot-eq0.false in
    record {
      answered = c.write-2.ensures.answered ∙ on_rest _ _ b (λ m. write_refusal m b (length v)) i later;
      exact = change_rest (λ x. g.M.Member.wrote x b v) (λ x k. g.B.Bank.wrote x k b v) _ _ _ i later c.write-2.ensures.exact;
      after = changed_rest (λ m n. Written m b v n) _ _ _ i later c.write-2.ensures.after;
    }
