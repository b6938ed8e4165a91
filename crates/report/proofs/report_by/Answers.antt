use Rattle.std.proofs.Common.{◌≡◌, ℕ, ◌+◌, ◌-◌, ◌<◌, true, false, ◌++◌, length, sym, ap, ◌∙◌, subst, arith}
use Rattle.std.proofs.lemmas.Bool.{cond-true, cond-false}
use Rattle.recovery.specs.Columns.{content}
use Rattle.report.specs.Task.{is_stripe, width, stripe_report, report_by, data_block, bad_stripe}
use Rattle.report.proofs.Texts.{made_as, report_same}
use Rattle.report.proofs.Wholes.{column_same}
use Rattle.report.proofs.report_by.Goals as goal

pub returns-in_default : goal.returns-in_default
returns-in_default g c =
    let C = g.C.Code.coding c.args.code.now in
    let task = c.args.task.now in
    let bad : is_stripe C.limit task ≡ false = subst (λ w. is_stripe w task ≡ false) c.limit.ensures.value c.in_default.ensures.given in
    record { made = made_as c.from_str.result bad_stripe (report_by C task) (sym (cond-false _ _ _ bad)) c.from_str.ensures.ok }

pub returns : goal.returns
returns g c =
    let C = g.C.Code.coding c.args.code.now in
    let task = c.args.task.now in
    let k = width task in
    let asked = c.in-Some.ensures.given in
    let good : is_stripe C.limit task ≡ true = subst (λ w. is_stripe w task ≡ true) c.limit.ensures.value asked.good in
    let stripe = c.in_ok-stripe.stripe in
    let v = stripe.columns.items in
    let made = c.in_ok-stripe.ensures.made in
    let all : length v - 2 ≡ k = omega (arith, made.count, asked.count) in
    let given : (i : ℕ) → i < k → content v i ≡ data_block task i = λ i l. made.kept i (omega (arith, asked.count)) ∙ asked.given i l in
    record {
      made =
          c.in_ok-push_report.ensures.made
          ∙ ap (λ a. a ++ stripe_report (g.C.Code.coding stripe.code.now) (length v - 2) (content v)) c.new-out.ensures.bytes
          ∙ ap (λ x. stripe_report (g.C.Code.coding x) (length v - 2) (content v)) c.in_ok-stripe.ensures.code
          ∙ ap (λ n. stripe_report C n (content v)) all
          ∙ report_same C k (content v) (data_block task) (column_same C k (content v) (data_block task) given k (omega arith)) (column_same C k (content v) (data_block task) given (k + 1) (omega arith))
          ∙ sym (cond-true _ _ _ good);
    }
