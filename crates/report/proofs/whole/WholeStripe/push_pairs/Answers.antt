use Rattle.std.proofs.Common.{◌++◌, length, string_bytes, sym, ap, ◌∙◌}
use Rattle.report.proofs.Texts.{grown, same_text, below_none, below_more}
use Rattle.report.proofs.whole.WholeStripe.push_pairs.Goals as goal

pub loop-i-init : goal.loop-i-init
loop-i-init g c = same_text (string_bytes c.args.out.now) ∙ ap (λ x. string_bytes c.args.out.now ++ x) (sym (below_none (length c.args.self.now.columns.items)))

pub loop-i-preserved : goal.loop-i-preserved
loop-i-preserved g c =
    grown (string_bytes c.args.out.now) _ _ _ _ c.loop-i.invariant c.in_ok-push_pairs_of.ensures.made
    ∙ ap (λ x. string_bytes c.args.out.now ++ x) (sym (below_more (length c.args.self.now.columns.items) c.loop-i.i))
