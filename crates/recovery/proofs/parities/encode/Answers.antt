use Rattle.std.proofs.Common.{sym, refl, ◌∙◌, rules}
use Rattle.parity.proofs.Columns.{column_P, column_Q}
use Rattle.recovery.proofs.parities.encode.Goals as goal

pub returns : goal.returns
returns g c =
    record {
      answered = search rules;
      p = c.add_all.ensures.p ∙ sym (column_P _ _ _ _ refl);
      q = c.add_all.ensures.q ∙ sym (column_Q _ _ _ _ refl);
    }
