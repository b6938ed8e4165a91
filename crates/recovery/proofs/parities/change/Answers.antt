use Rattle.std.proofs.Common.{◌≡◌, ◌∙◌, ap₂, rules}
use Rattle.code.specs.Blocks.{◌⊕◌}
use Rattle.code.proofs.Blocks.{onto_same}
use Rattle.recovery.proofs.Changing.{changed}
use Rattle.recovery.proofs.parities.change.Goals as goal

pub returns : goal.returns
returns g c =
    let C = g.C.Code.coding c.args.code.now in
    let d = c.in_ok-difference.difference.now in
    let p = c.in_ok-p.p.now in
    let same_d : d ≡ c.args.difference.now = search (rules, c.as_array.ensures.cases, c.in_ok-difference.ensures.ok_part) in
    let same_p : p ≡ c.args.p.now = search (rules, c.as_mut_array.ensures.cases, c.in_ok-p.ensures.ok_part) in
    let same_q : c.in_ok-q.q.now ≡ c.args.q.now = search (rules, c.as_mut_array-2.ensures.cases, c.in_ok-q.ensures.ok_part) in
    let ep : c.xor_run.new.into ≡ c.args.p.now ⊕ c.args.difference.now =
    c.xor_run.ensures.after ∙ onto_same p d (search (rules, c.as_array.ensures.cases, c.in_ok-difference.ensures.ok_part, c.as_mut_array.ensures.cases, c.in_ok-p.ensures.ok_part)) ∙ ap₂ ◌⊕◌ same_p same_d in
    let mixed : c.mix_into.new.into ≡ c.in_ok-q.q.now ⊕ C.mix c.args.i d = search rules in
    let eq : c.mix_into.new.into ≡ c.args.q.now ⊕ C.mix c.args.i c.args.difference.now = mixed ∙ ap₂ (λ x y. x ⊕ C.mix c.args.i y) same_q same_d in
    record {
      answered = search rules;
      p = ep;
      q = eq;
      right = λ _ k e v h. changed C (g.met.C.Code.lawful c.args.code.now) k e c.args.i v c.args.difference.now c.args.p.now c.args.q.now c.xor_run.new.into c.mix_into.new.into h ep eq;
    }
