use Rattle.std.proofs.Common.{◌≡◌, true, [], get_or, take, is_ok, sym, ◌∙◌, arith}
use Rattle.std.proofs.lemmas.List.{get_or_default}
use Rattle.std.proofs.lemmas.Slice.Eq.{slice_eq-Decides}
use Rattle.std.proofs.lemmas.Bool.Decides.{Decides-eqb}
use Rattle.report.proofs.Wholes.{asked, not_refused, comes_back, taken}
use Rattle.report.proofs.whole.WholeStripe.comes_back.Goals as goal

pub returns-then-is_ok : goal.returns-then-is_ok
returns-then-is_ok g c =
    let C = g.C.Code.coding c.args.self.now.code.now in
    let blocks = c.args.self.now.columns.items in
    let stripe = c.args.self.now in
    let left = c.without-left.result in
    let a = asked C blocks left c.args.i c.args.j c.len.result stripe.whole stripe.some (omega arith) (omega arith) (rw c.deref.ensures.value at c.without-left.ensures.left) in
    let ok : is_ok c.recover_given-answer.result ≡ true = sym c.if-is_ok.ensures.value in
    let same : c.recover_given-answer.new.into ≡ get_or blocks c.args.want [] =
    comes_back C blocks (take c.len.result left) c.args.want c.recover_given-answer.new.into stripe.whole stripe.some c.requires.within a (c.recover_given-answer.ensures.right ok) in
    record { value = (slice_eq-Decides Decides-eqb _ _ _ c.eq.ensures).1 (same ∙ get_or_default blocks c.args.want [] _ c.requires.within ∙ sym c.index.ensures) }

pub returns-else-is_ok : goal.returns-else-is_ok
returns-else-is_ok g c =
    let C = g.C.Code.coding c.args.self.now.code.now in
    let blocks = c.args.self.now.columns.items in
    let stripe = c.args.self.now in
    let left = c.without-left.result in
    let a = asked C blocks left c.args.i c.args.j c.len.result stripe.whole stripe.some (omega arith) (omega arith) (rw c.deref.ensures.value at c.without-left.ensures.left) in
    record {
      value = c.is_ok.ensures.value
          ∙ taken c.recover_given-answer.result (c.recover_given-answer.ensures.answered ∙ not_refused C blocks (take c.len.result left) c.args.want stripe.whole stripe.some c.requires.within a);
    }
