use Rattle.std.proofs.Common.{◌≡◌, ◌+◌, sym, ap, ◌∙◌, subst, arith}
use Rattle.parity.specs.Stripe.{missing}
use Rattle.parity.proofs.Gaps.{missing_none}
use Rattle.recovery.proofs.Marks.{missing_next, at_most_one}
use Rattle.recovery.proofs.columns.count_missing.Goals as goal

pub loop-t-init : goal.loop-t-init
loop-t-init g c = record { counted = sym (missing_none _); low = omega arith }

pub overflow_add-count : goal.overflow_add-count
overflow_add-count g c = let a = at_most_one c.is_none.result _ c.from-count.ensures in omega (arith, c.loop-t.invariant.low)

pub loop-t-preserved : goal.loop-t-preserved
loop-t-preserved g c =
    let a = at_most_one c.is_none.result _ c.from-count.ensures in record {
      counted =
          ap (λ n. n + c.from-count.result) c.loop-t.invariant.counted
          ∙ sym (missing_next (g.S.AtHand.held c.args.columns.now) c.loop-t.t c.at.result c.is_none.result _ c.at.ensures.value c.is_none.ensures c.from-count.ensures);
      low = omega (arith, c.loop-t.invariant.low);
    }

pub returns : goal.returns
returns g c =
    let e : c.loop-t.t ≡ g.S.AtHand.count c.args.columns.now = omega (arith, c.len-t-end.ensures.value) in
    record { value = subst (λ n. c.loop-t.count ≡ missing (g.S.AtHand.held c.args.columns.now) n) e c.loop-t.invariant.counted }
