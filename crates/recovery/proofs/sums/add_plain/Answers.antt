use Rattle.std.proofs.Common.{◌≡◌, true, sym, ap, ◌∙◌, arith}
use Rattle.std.proofs.lemmas.Bool.{cond-true}
use Rattle.code.specs.Blocks.{◌⊕◌}
use Rattle.code.proofs.Blocks.{onto_same}
use Rattle.parity.specs.Ways.{takes_plain}
use Rattle.parity.proofs.Columns.{plain_low}
use Rattle.recovery.proofs.Parts.{plain_kept}
use Rattle.recovery.proofs.sums.add_plain.Goals as goal

pub returns-then-t-k : goal.returns-then-t-k
returns-then-t-k c =
    let w : true ≡ takes_plain c.args.way = c.if-takes_plain.ensures.value in
    record {
      after = c.xor_run.ensures.after ∙ onto_same c.args.plain.now c.args.block.now (omega (arith, c.told-plain, c.told-block))
          ∙ sym (cond-true _ _ _ (sym w) ∙ ap (λ x. c.args.plain.now ⊕ x) (plain_low c.args.k c.args.t c.args.block.now (omega arith)));
    }

pub returns-else-takes_plain : goal.returns-else-takes_plain
returns-else-takes_plain c = record {
  after = rw (← c.takes_plain.ensures.value) (plain_kept c.takes_plain.result c.args.k c.args.t c.args.block.now c.args.plain.now c.told-plain c.else-takes_plain.either);
}
