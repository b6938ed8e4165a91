use Rattle.std.proofs.Common.{sym, ap, ◌∙◌}
use Rattle.std.proofs.lemmas.Bool.{cond-true, lt-ltb}
use Rattle.member.specs.Meaning.{handed}
use Rattle.member.specs.Runs.{image_meaning}
use Rattle.shelf.specs.ShelvesLemmas.{lent_is}
use Rattle.shelf.proofs.ShelfBank.read.Goals as goal

pub returns-clause-after : goal.returns-clause-after
returns-clause-after c =
    let at = c.in_ok-at.ensures.found in
    let lent = lent_is c.args.self.now.buffer.items _ c.args.self.now.images c.args.slot _ _ at c.deref.ensures.value in
    c.read_in.ensures.after ∙ (ap (λ p. handed (image_meaning p) c.args.block c.args.buffer.now) lent ∙ sym (cond-true _ _ _ (lt-ltb _ _ at.slot)))
