use Rattle.std.proofs.Common.{◌≡◌, ◌+◌, cond, length, refl, ap, ◌∙◌, subst, arith}
use Rattle.code.specs.Answers.{answer}
use Rattle.code.specs.Blocks.{zeros}
use Rattle.parity.specs.Stripe.{plain_part, mixed_part, plain_sum, mixed_sum}
use Rattle.parity.specs.Ways.{takes_plain, takes_mixed}
use Rattle.parity.proofs.Sums.{sum_none}
use Rattle.recovery.proofs.Marks.{needed_none, needed_step, present_added, absent_kept}
use Rattle.recovery.proofs.Outcomes.{never, stripe_taken, good_three}
use Rattle.recovery.proofs.columns.gather.Goals as goal
use Rattle.recovery.proofs.columns.gather.Goals.{in-Some+in_ok-add_column, in_default}

pub loop-t-init : goal.loop-t-init
loop-t-init g c = record { long = (c.told-plain, c.told-mixed); plain = needed_none _ _ _ (sum_none _) c.requires.empty.0; mixed = needed_none _ _ _ (sum_none _) c.requires.empty.1 }

pub returns-in_err-add_column : goal.returns-in_err-add_column
returns-in_err-add_column g c =
    let z : answer c.add_column.result ≡ 0 =
    c.add_column.ensures.answered
    ∙ stripe_taken _ _ _ _ c.requires.shape.0 (omega (arith, c.requires.shape.1, c.len-t-end.ensures.value))
    (good_three _ _ _ (omega arith) c.loop-t.invariant.long.0 c.loop-t.invariant.long.1) in
    absurd (never c.add_column.result _ c.in_err-add_column.was z)

pub loop-t-preserved : goal.loop-t-preserved
loop-t-preserved g c =
    let C = g.C.Code.coding c.args.code.now in
    let k = c.args.k in
    let t = c.loop-t.t in
    let way = c.args.way in
    let here = g.S.AtHand.held c.args.columns.now t in
    let held = c.at.ensures.value in
    let sums = c.loop-t.invariant in
    elim c.match-at.branch [
      | in-Some+in_ok-add_column w ↦
          let added = w.in_ok-add_column.ensures in record {
            long = (ap length w.plain-is ∙ w.add_column.auto.plain ∙ sums.long.0, ap length w.mixed-is ∙ w.add_column.auto.mixed ∙ sums.long.1);
            plain = needed_step _ _ _ _ _ sums.plain (present_added (takes_plain way) (plain_part k t) here c.at.result w.in-Some.block c.loop-t.plain w.add_column.new.plain c.match-at.plain held w.in-Some.is w.plain-is added.plain);
            mixed = needed_step _ _ _ _ _ sums.mixed (present_added (takes_mixed way) (mixed_part C k t) here c.at.result w.in-Some.block c.loop-t.mixed w.add_column.new.mixed c.match-at.mixed held w.in-Some.is w.mixed-is added.mixed);
          }
      | in_default w ↦ record {
        long = (ap length w.plain-is ∙ sums.long.0, ap length w.mixed-is ∙ sums.long.1);
        plain = needed_step _ _ _ _ _ sums.plain (absent_kept (takes_plain way) (plain_part k t) here c.at.result c.loop-t.plain c.match-at.plain held w.in_default.is sums.long.0 w.plain-is);
        mixed = needed_step _ _ _ _ _ sums.mixed (absent_kept (takes_mixed way) (mixed_part C k t) here c.at.result c.loop-t.mixed c.match-at.mixed held w.in_default.is sums.long.1 w.mixed-is);
      }
    ]

pub returns : goal.returns
returns g c =
    let cols = g.S.AtHand.held c.args.columns.now in
    let e : c.loop-t.t ≡ c.args.k + 2 = omega (arith, c.requires.shape.1, c.len-t-end.ensures.value) in
    record {
      answered = refl;
      plain = subst (λ n. c.loop-t.plain ≡ cond (takes_plain c.args.way) (plain_sum c.args.k cols n) zeros) e c.loop-t.invariant.plain;
      mixed = subst (λ n. c.loop-t.mixed ≡ cond (takes_mixed c.args.way) (mixed_sum (g.C.Code.coding c.args.code.now) c.args.k cols n) zeros) e c.loop-t.invariant.mixed;
    }
