use Rattle.std.proofs.Common.{◌≡◌, ◌+◌, ◌<◌, ◌≤◌, Err, ap, ◌∙◌, arith}
use Rattle.parity.specs.Stripe.{missing}
use Rattle.contents.specs.declared.Loss.{Loss}
use Rattle.contents.specs.Refusals.{with_loss}
use Rattle.volume.proofs.Storing.{after_torn, after_whole}
use Rattle.volume.specs.Grids.{width, columns_on}
use Rattle.volume.specs.Slots.{slots_in}
use Rattle.volume.proofs.grid.Grid.after_write.Goals as goal

pub returns-then-survey-gt2 : goal.returns-then-survey-gt2
returns-then-survey-gt2 g c =
    let m = missing (columns_on g.L.Layout c.args.self.now (slots_in g.B.Bank c.args.bank.now) c.args.s) (width c.args.self.now + 2) in
    let e : c.survey-survey.result.missing ≡ m = c.survey-survey.ensures.value.count in
    let l : 2 < m = omega arith in
    record { answered = ap (λ (x : Loss). Err (with_loss 5 x)) c.loss.ensures.value ∙ after_torn m _ l }

pub returns : goal.returns
returns g c =
    let m = missing (columns_on g.L.Layout c.args.self.now (slots_in g.B.Bank c.args.bank.now) c.args.s) (width c.args.self.now + 2) in
    let e : c.survey-survey.result.missing ≡ m = c.survey-survey.ensures.value.count in
    let l : m ≤ 2 = omega arith in
    record { answered = after_whole _ m _ e l }
