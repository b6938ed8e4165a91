use Rattle.std.proofs.Common.{◌≡◌, ℕ, Some, vec_items, sym, refl, ap, ◌∙◌, subst, arith}
use Rattle.remap.specs.Places.{table_of, unmoved, kept_back}
use Rattle.script.specs.Format.{entry_count}
use Rattle.recorder.specs.Planned.{planned}
use Rattle.recorder.proofs.Planning.{planned_none, planned_more, stacked}
use Rattle.recorder.proofs.stack.Goals as goal

pub loop-i-init : goal.loop-i-init
loop-i-init g c = (refl, planned_none _ _ _ c.new-layer.ensures.plan)

pub loop-i-preserved : goal.loop-i-preserved
loop-i-preserved g c = (
  c.plan_entry.ensures.below ∙ c.loop-i.invariant.0,
  planned_more (vec_items c.args.script.now.bytes) c.args.slot c.loop-i.i (Some c.unwrap.result) c.loop-i.layer.plan c.plan_entry.new.layer.plan (sym c.unwrap.ensures ∙ c.entry.ensures.value) c.loop-i.invariant.1 c.plan_entry.ensures.plan,
)

pub returns : goal.returns
returns g c =
    let xs = vec_items c.args.script.now.bytes in
    let b : c.loop-i.layer.below ≡ c.args.below = c.loop-i.invariant.0 ∙ c.new-layer.ensures.below in
    let n : c.loop-i.i ≡ c.entries-i-end.result = omega arith in
    let P : ℕ → Type 0 = λ i. c.loop-i.layer.plan ≡ planned xs c.args.slot i in
    let below : c.new.result.below.below ≡ c.args.below = ap (λ x. x.below) c.new.ensures.below ∙ b in
    let plan : c.new.result.below.plan ≡ planned xs c.args.slot (entry_count xs) = ap (λ x. x.plan) c.new.ensures.below ∙ subst P (n ∙ c.entries-i-end.ensures.value) c.loop-i.invariant.1 in
    let table : table_of c.new.result.moves ≡ unmoved (kept_back 2 (g.M.Member.meaning (g.M.Member.state c.args.below)).count) = c.new.ensures.table ∙ ap (λ x. unmoved (kept_back 2 (g.M.Member.meaning (g.M.Member.state x)).count)) b in
    record {
      below = below;
      plan = plan;
      table = table;
      meaning = stacked (λ m. g.M.Member.meaning (g.M.Member.state m)) _ _ _ _ _ _ table plan below;
    }
