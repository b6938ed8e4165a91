use Rattle.std.proofs.Common.{◌≡◌, sym, ◌∙◌, arith}
use Rattle.code.specs.Answers.{answer}
use Rattle.parity.proofs.Sums.{sum_none, sum_step}
use Rattle.recovery.proofs.Outcomes.{never, good_three, column_taken}
use Rattle.recovery.proofs.parities.add_all.Goals as goal

pub loop-j-init : goal.loop-j-init
loop-j-init g c = (c.requires.p ∙ sym (sum_none _), c.requires.q ∙ sym (sum_none _))

pub loop-j-preserved : goal.loop-j-preserved
loop-j-preserved g c = (sum_step _ _ _ _ c.loop-j.invariant.0 c.in_ok-change.ensures.p, sum_step _ _ _ _ c.loop-j.invariant.1 c.in_ok-change.ensures.q)

pub returns-in_err-change : goal.returns-in_err-change
returns-in_err-change g c =
    let z : answer c.change.result ≡ 0 =
    c.change.ensures.answered
    ∙ column_taken _ _ _ (omega arith) (good_three _ c.loop-j.p c.loop-j.q (c.told-data _ (omega arith)) (omega arith) (omega arith)) in
    absurd (never c.change.result _ c.in_err-change.was z)
