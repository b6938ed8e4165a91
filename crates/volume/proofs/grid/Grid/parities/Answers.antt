use Rattle.std.proofs.Common.{◌≡◌, ℕ, ◌+◌, List, is_ok, sym, ap, ◌∙◌, subst, ap₂, arith}
use Rattle.code.specs.Blocks.{◌⊕◌}
use Rattle.parity.specs.Ways.{recovered}
use Rattle.bank.specs.Slots.{Slots}
use Rattle.volume.proofs.Storing.{xor_done, change_ok, change_done}
use Rattle.volume.specs.Grids.{width, columns_on}
use Rattle.volume.specs.Slots.{slots_in, Surveyed}
use Rattle.volume.proofs.grid.Grid.parities.Goals as goal

pub fetch-requires-2 : goal.fetch-requires-2
fetch-requires-2 g c =
    let cols = λ (ms : Slots). columns_on g.L.Layout c.args.self.now ms c.args.s in
    record {
      surveyed = subst (λ (ms : Slots). Surveyed (cols ms) (width c.args.self.now) c.args.survey) (sym c.fetch.ensures.same) c.requires.surveyed;
    }

pub fetch-requires-3 : goal.fetch-requires-3
fetch-requires-3 g c =
    let cols = λ (ms : Slots). columns_on g.L.Layout c.args.self.now ms c.args.s in
    record {
      surveyed = subst (λ (ms : Slots). Surveyed (cols ms) (width c.args.self.now) c.args.survey) (sym (c.fetch-2.ensures.same ∙ c.fetch.ensures.same)) c.requires.surveyed;
    }

pub returns : goal.returns
returns g c =
    let C = g.C.Code.coding c.args.self.now.code.now in
    let k = width c.args.self.now in
    let cols = λ (ms : Slots). columns_on g.L.Layout c.args.self.now ms c.args.s in
    let ms = slots_in g.B.Bank c.args.bank.now in
    let one = c.fetch.ensures.same in
    let two = c.fetch-2.ensures.same ∙ one in
    let n : c.width-k.result ≡ k = c.width-k.ensures.value in
    let ep : c.fetch-2.new.into ≡ recovered C k (cols ms) k = c.fetch-2.ensures.value ∙ ap₂ (λ (x : Slots) (t : ℕ). recovered C k (cols x) t) one n in
    let eq : c.fetch-3.new.into ≡ recovered C k (cols ms) (k + 1) =
    c.fetch-3.ensures.value ∙ ap₂ (λ (x : Slots) (t : ℕ). recovered C k (cols x) (t + 1)) two n in
    let d0 : c.xor_into.new.into ≡ c.fetch.new.into ⊕ c.args.bytes.now =
    xor_done c.args.bytes.now c.fetch.new.into c.xor_into.new.into c.xor_into.result c.told-bytes c.fetch.array_long c.xor_into.ensures.answered c.xor_into.ensures.after in
    let ed = d0 ∙ ap (λ (x : List ℕ). x ⊕ c.args.bytes.now) c.fetch.ensures.value in
    let ok : is_ok c.change.result ≡ _ =
    change_ok C.limit c.args.c c.xor_into.new.into c.fetch-2.new.into c.fetch-3.new.into c.change.result (omega (arith, c.requires.column, c.args.self.now.fitting.reach))
    (c.xor_into.auto.into ∙ c.fetch.array_long) c.fetch-2.array_long c.fetch-3.array_long c.change.ensures.answered in
    record {
      same = c.fetch-3.ensures.same ∙ two;
      p = change_done (λ (x : List ℕ). x) (is_ok c.change.result) _ _ _ _ _ ok ep ed c.change.ensures.p;
      q = change_done (C.mix c.args.c) (is_ok c.change.result) _ _ _ _ _ ok eq ed c.change.ensures.q;
    }
