use Rattle.std.proofs.Common.{◌≡◌, sym, refl, ap, ◌∙◌, subst, unwrap_or, arith, rules}
use Rattle.bank.specs.Slots.{told}
use Rattle.contents.specs.Shapes.{Shape, Valid, Roomy, formed}
use Rattle.contents.proofs.Forming.{forms}
use Rattle.contents.proofs.Keeping.{formats}
use Rattle.volume.specs.Forming.{parts_size}
use Rattle.volume.specs.Sizes.{Fitting, size_of, shape_at}
use Rattle.volume.specs.Slots.{members_of, frontier_of}
use Rattle.volume.proofs.Formatting.{parts_form, parts_fit, fitted_stays}
use Rattle.volume.proofs.volume.blank.Blank.format.Goals as goal

pub returns : goal.returns
returns g c =
    let b = c.args.self in
    let C = g.C.Code.coding b.code in
    let slot = g.L.Layout.slot b.layout in
    let column = g.L.Layout.column b.layout in
    let ms = g.B.Bank.meaning (g.B.Bank.state b.bank) in
    let n = told ms.size in
    let M = members_of ms in
    let N = members_of (g.B.Bank.meaning (g.B.Bank.state c.zero_stripes.new.bank)) in
    let z = c.unwrap_or_default-size.result in
    let k : z ≡ unwrap_or c.parts_size.result (record { slots = 0; stripes = 0 }) = search rules in
    let e : z ≡ parts_size C.limit n M = k ∙ c.parts_size.ensures.value in
    let V = shape_at C slot column (size_of C.limit z) in
    let stays : size_of C.limit z ≡ z = fitted_stays C.limit z (subst (Fitting C.limit) (sym k) (parts_fit C.limit c.parts_size.result c.parts_size.ensures.fitting)) in
    let made : V ≡ formed C slot column n M = ap (shape_at C slot column) (stays ∙ e) ∙ parts_form C slot column n M in
    let good = forms C (g.met.C.Code.lawful b.code) slot column (g.met.L.Layout.lawful b.layout) n M in
    let valid : Valid V = subst Valid (sym made) good.0 in
    let room : Roomy V M = subst (λ (W : Shape). Roomy W M) (sym made) good.1 in
    let steps = rw (← stays) at c.zero_stripes.ensures.zeroed in
    let done = formats V valid M (frontier_of c.idle.result.rows) room N steps in
    record {
      code = refl;
      layout = refl;
      shape = made;
      table = rw (← stays) at c.idle.ensures.rows;
      exact = rw (← stays) at c.zero_stripes.ensures.exact;
      changes = steps;
      fits = done.0;
      counts = done.1;
      valid = valid;
      roomy = λ i l. let r = room i l in let q = done.1 i in omega arith;
    }
