use Rattle.std.proofs.Common.{◌++◌, string_bytes, sym, ap, ◌∙◌, arith}
use Rattle.report.proofs.Texts.{grown, same_text, hex_none, hex_more}
use Rattle.report.proofs.text.push_block.Goals as goal

pub loop-b-init : goal.loop-b-init
loop-b-init c = same_text (string_bytes c.args.out.now) ∙ ap (λ x. string_bytes c.args.out.now ++ x) (sym hex_none)

pub loop-b-preserved : goal.loop-b-preserved
loop-b-preserved c =
    grown (string_bytes c.args.out.now) _ _ _ _ c.loop-b.invariant c.in_ok-push_hex.ensures.made
    ∙ ap (λ x. string_bytes c.args.out.now ++ x) (sym (hex_more c.args.block.now c.loop-b.b-index (omega arith)))
