use Rattle.std.proofs.Common.{◌≡◌, ◌+◌, ◌-◌, ◌++◌, length, string_bytes, ap, ◌∙◌, arith}
use Rattle.std.proofs.lemmas.Result.{on_ok_weaker}
use Rattle.parity.specs.Stripe.{column}
use Rattle.recovery.specs.Columns.{content}
use Rattle.report.proofs.Texts.{four_parts, report_is}
use Rattle.report.proofs.Wholes.{held_at}
use Rattle.report.proofs.whole.WholeStripe.push_report.Goals as goal

pub returns : goal.returns
returns g c =
    let C = g.C.Code.coding c.args.self.now.code.now in
    let blocks = c.args.self.now.columns.items in
    let n = length blocks in
    let k = n - 2 in
    let whole = c.args.self.now.whole in
    let long : c.len-n.result ≡ n = omega arith in
    let p : c.index.result.now ≡ column C k (content blocks) k = held_at C k blocks _ _ k whole c.index.ensures (omega arith) (omega arith) in
    let q : c.index-2.result.now ≡ column C k (content blocks) (k + 1) = held_at C k blocks _ _ (k + 1) whole c.index-2.ensures (omega arith) (omega arith) in
    record {
      made =
          on_ok_weaker c.push_count.result
          (λ made. four_parts (string_bytes c.args.out.now) _ _ _ _ _ _ _ _ c.in_ok-push_parity.ensures.made c.in_ok-push_parity-2.ensures.made c.in_ok-push_pairs.ensures.made (rw long at made)
          ∙ ap (λ x. string_bytes c.args.out.now ++ x) (report_is C k n (content blocks) _ _ p q (omega arith)))
          c.push_count.ensures.made;
    }
