use Rattle.std.proofs.Common.{◌≡◌, List, [], ◌∷◌, length, vec_items, refl, ◌∙◌, arith}
use Rattle.volume.specs.declared.volume.rebuilds.Order.{Order}
use Rattle.runs.proofs.Logged.{closing_none, closing_more, closing_all}
use Rattle.runs.proofs.close_all.Goals as goal

pub loop-order-init : goal.loop-order-init
loop-order-init g c = (refl, closing_none _ _ _)

pub loop-order-preserved : goal.loop-order-preserved
loop-order-preserved g c =
    let i = c.loop-order.invariant in
    (c.close.ensures.same ∙ i.0, closing_more _ _ _ _ _ _ _ _ c.in-Some.order _ i.0 c.in-Some.ensures.items i.1 c.close.ensures.goes)

none_left : (os : List Order) → length os ≡ 0 → os ≡ []
none_left [] e = refl
none_left (o ∷ os) e = absurd (omega arith)

pub returns : goal.returns
returns g c =
    let i = c.loop-order.invariant in
    let whole = c.loop-order.orders.ok in
    record {
      same = i.0;
      closes = closing_all _ _ _ _ _ (none_left (vec_items c.loop-order.orders) (omega (arith, whole.0, c.in_default.ensures.cases.0))) i.1;
    }
