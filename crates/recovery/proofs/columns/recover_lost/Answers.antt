use Rattle.std.proofs.Common.{◌≡◌, ◌+◌, ◌-◌, ◌≤◌, ◌∙◌, subst, arith, rules}
use Rattle.parity.specs.Stripe.{missing}
use Rattle.parity.specs.Ways.{recovered}
use Rattle.parity.proofs.Solving.{recovers}
use Rattle.recovery.proofs.Outcomes.{shape}
use Rattle.recovery.proofs.columns.recover_lost.Goals as goal

pub returns : goal.returns
returns g c =
    let C = g.C.Code.coding c.args.code.now in
    let n = g.S.AtHand.count c.args.columns.now in
    let cols = g.S.AtHand.held c.args.columns.now in
    let v : c.recover_missing.new.into ≡ recovered C (n - 2) cols c.args.want =
    subst (λ m. c.recover_missing.new.into ≡ recovered C (m - 2) cols c.args.want) c.len.ensures.value c.in_ok-recover_missing.ensures.value in
    let s = shape C.limit n n c.args.want c.requires.shape in
    let e : n ≡ n - 2 + 2 = omega (arith, s.pair) in
    let few : missing cols (n - 2 + 2) ≤ 2 =
    subst (λ m. missing cols m ≤ 2) e (omega (arith, c.count_missing.ensures.value)) in
    record {
      answered = search rules;
      value = v;
      right = λ _ d hd fit. v ∙ recovers C (g.met.C.Code.lawful c.args.code.now) (n - 2) (omega (arith, s.under)) cols d hd fit few c.args.want (omega (arith, s.has, s.pair));
    }
