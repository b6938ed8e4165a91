use Rattle.std.proofs.Common.{◌≡◌, ◌+◌, [], string_bytes, ap, ◌∙◌, arith}
use Rattle.products.specs.Texts.{line, texts}
use Rattle.products.proofs.Growing.{more}
use Rattle.products.proofs.table_of_products.Goals as goal
use Rattle.products.proofs.table_of_products.Goals.{else-loop-a-test, then-loop-a-test+in_ok-push_line+else-a-lt255}

pub loop-a-init : goal.loop-a-init
unfolding texts
loop-a-init c = c.in_ok-text.ensures.bytes

pub loop-a-preserved : goal.loop-a-preserved
loop-a-preserved c =
    more line [] (string_bytes c.loop-a.text) (string_bytes c.push_line.new.text) c.loop-a.a c.loop-a.invariant
    c.in_ok-push_line.ensures.added

pub returns : goal.returns
returns c = elim c.loop-a-test.branch [
  | else-loop-a-test w ↦ absurd (omega arith)
  | then-loop-a-test+in_ok-push_line+else-a-lt255 w ↦
      let last : c.loop-a.a + 1 ≡ 256 = omega arith in record {
        made =
            ap string_bytes w.text-is
            ∙ more line [] (string_bytes c.loop-a.text) (string_bytes w.push_line.new.text) c.loop-a.a c.loop-a.invariant w.in_ok-push_line.ensures.added
            ∙ ap (texts line) last;
      }
]
