use Rattle.std.proofs.Common.{◌≡◌, ◌+◌, ◌-◌, ◌<◌, ◌≤◌, Err, sym, refl, ap, ◌∙◌, subst, arith}
use Rattle.std.proofs.lemmas.Bool.{true≢false, false≢true, cond-true, cond-false, lt-ltb, le-ltb}
use Rattle.parity.specs.Stripe.{missing}
use Rattle.bank.specs.Slots.{Slots}
use Rattle.contents.specs.declared.Loss.{Loss}
use Rattle.contents.specs.Refusals.{with_loss}
use Rattle.contents.proofs.Storing.{spread_of}
use Rattle.volume.specs.Stores.{Stores}
use Rattle.volume.proofs.Answering.{grid_valid}
use Rattle.volume.specs.Grids.{grid_shape, grid_frontiers, columns_on}
use Rattle.volume.specs.Slots.{members_of, members_in, slots_in}
use Rattle.volume.proofs.grid.Grid.write_column.Goals as goal

pub parities-requires : goal.parities-requires
parities-requires g c = record {
  column = c.requires.within.1;
  surveyed = c.survey-survey.ensures.value;
}

pub returns-then-survey-gt2 : goal.returns-then-survey-gt2
returns-then-survey-gt2 g c =
    let ms = slots_in g.B.Bank c.args.bank.now in
    let n = c.args.self.now.size.slots in
    let m = missing (columns_on g.L.Layout c.args.self.now ms c.args.s) (n - 2 + 2) in
    let e : c.survey-survey.result.missing ≡ m = c.survey-survey.ensures.value.count in
    let l : 2 < m = omega arith in
    let t = lt-ltb 2 m l in
    record {
      written = record {
        answered = ap (λ (x : Loss). Err (with_loss 4 x)) c.loss.ensures.value ∙ sym (cond-true _ _ _ t);
        taken = λ f. absurd (true≢false (sym t ∙ f));
        refused = λ _. refl;
      };
    }

pub returns : goal.returns
returns g c =
    let ms = slots_in g.B.Bank c.args.bank.now in
    let F = grid_frontiers c.args.self.now in
    let slot = g.L.Layout.slot c.args.self.now.layout.now in
    let n = c.args.self.now.size.slots in
    let s = c.args.s in
    let V = grid_shape g.C.Code g.L.Layout c.args.self.now in
    let M = members_of ms in
    let N = members_in g.B.Bank c.spread.new.bank in
    let m = missing (columns_on g.L.Layout c.args.self.now ms s) (n - 2 + 2) in
    let e : c.survey-survey.result.missing ≡ m = c.survey-survey.ensures.value.count in
    let l : m ≤ 2 = omega arith in
    let f = le-ltb 2 m l in
    let valid = grid_valid g.C.Code g.L.Layout g.met.C.Code.lawful g.met.L.Layout.lawful c.args.self.now in
    let st = subst (λ (x : Slots). Stores (slot n s) F s (n - 2) c.args.c c.args.bytes.now c.parities.new.p c.parities.new.q (members_of x) N) c.parities.ensures.same c.spread.ensures.stored in
    record {
      written = record {
        answered = c.after_write.ensures.answered ∙ sym (cond-false _ _ _ f);
        taken = λ _. spread_of V valid M st.after_own st.after_P N F s c.args.c c.args.bytes.now c.parities.new.p c.parities.new.q c.requires.within.0 c.requires.within.1 c.parities.ensures.p c.parities.ensures.q st.own st.P st.Q;
        refused = λ t. absurd (false≢true (sym f ∙ t));
      };
    }
