use Rattle.std.proofs.Common.{◌≡◌, ℕ, ◌∙◌, subst, arith}
use Rattle.volume.proofs.Surveying.{Told, told_none, told_more, told_all, at_most_one, absent_is}
use Rattle.volume.specs.Grids.{columns_on}
use Rattle.volume.specs.Slots.{slots_in}
use Rattle.volume.proofs.grid.Grid.survey.Goals as goal

pub loop-t-init : goal.loop-t-init
loop-t-init g c = told_none _

pub loop-t-preserved : goal.loop-t-preserved
loop-t-preserved g c = told_more _ _ _ _ c.has-here.result _ _ c.loop-t.invariant c.has-here.ensures.value c.note.ensures.after (c.from-missing.ensures ∙ absent_is c.has-here.result)

pub overflow_add-missing : goal.overflow_add-missing
overflow_add-missing g c = let a = at_most_one c.has-here.result _ (c.from-missing.ensures ∙ absent_is c.has-here.result) in omega (arith, c.loop-t.invariant.low, c.args.self.now.fitting.most)

pub returns : goal.returns
returns g c =
    let k = c.width-k.result in
    let cols = columns_on g.L.Layout c.args.self.now (slots_in g.B.Bank c.args.bank.now) c.args.s in
    let e : c.loop-t.t ≡ k = omega arith in
    let h = subst (λ (x : ℕ). Told cols x c.loop-t.lost c.loop-t.missing) e c.loop-t.invariant in
    record {
      value = rw (← c.width-k.ensures.value) (record {
        lost = h.lost;
        p = c.has-p.ensures.value;
        count = told_all cols k c.loop-t.missing _ _ _ _ h.count c.has-p.ensures.value c.has-q.ensures.value (c.from.ensures ∙ absent_is c.has-p.result) (c.from-2.ensures ∙ absent_is c.has-q.result);
      });
    }
