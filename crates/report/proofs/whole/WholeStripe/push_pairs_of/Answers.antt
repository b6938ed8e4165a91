use Rattle.std.proofs.Common.{◌≡◌, ◌+◌, ◌-◌, ◌++◌, string_bytes, sym, ap, ◌∙◌, arith}
use Rattle.report.specs.Text.{lines_with, pair_line}
use Rattle.report.proofs.Texts.{grown, same_text, with_none, with_more}
use Rattle.report.proofs.whole.WholeStripe.push_pairs_of.Goals as goal

pub loop-j-init : goal.loop-j-init
loop-j-init g c =
    let i = c.args.i in
    let none : i + 1 - (i + 1) ≡ 0 = omega arith in
    same_text (string_bytes c.args.out.now)
    ∙ ap (λ x. string_bytes c.args.out.now ++ x) (sym (ap (lines_with i (i + 1)) none ∙ with_none i (i + 1)))

pub loop-j-preserved : goal.loop-j-preserved
loop-j-preserved g c =
    let i = c.args.i in
    let j = c.loop-j.j in
    let line = c.in_ok-push_pair.ensures.made ∙ ap (λ b. string_bytes c.loop-j.out ++ pair_line i j b) c.survives.ensures.value in
    grown (string_bytes c.args.out.now) _ _ _ _ c.loop-j.invariant line
    ∙ ap (λ x. string_bytes c.args.out.now ++ x) (sym (with_more i (i + 1) j c.loop-j.auto.j))
