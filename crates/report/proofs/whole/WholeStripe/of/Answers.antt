use Rattle.std.proofs.Common.{◌≡◌, Bool, cond, ◌-◌, true, ℕ, ◌≤◌, List, [], ◌∷◌, ◌++◌, take, length, is_ok, refl, ap, ◌∙◌, take_all, arith}
use Rattle.std.proofs.lemmas.Bool.{cond-true, le-leb}
use Rattle.report.proofs.Wholes.{taken, made_of, whole_of}
use Rattle.report.proofs.whole.WholeStripe.of.Goals as goal

-- what a call that was taken has written
written : (b : Bool) (x y z : List ℕ) → b ≡ true → z ≡ cond b x y → z ≡ x
written b x y z h e = e ∙ cond-true b x y h

-- what is held in the end
joined : (given blocks first : List (List ℕ)) (p q : List ℕ) (i : ℕ) → first ≡ take i given → length given ≤ i → {second : List (List ℕ)} → second ≡ first ++ (p ∷ []) → blocks ≡ second ++ (q ∷ [])
    → blocks ≡ (given ++ (p ∷ [])) ++ (q ∷ [])
joined given blocks first p q i e l s b = b ∙ ap (λ x. x ++ (q ∷ [])) (s ∙ ap (λ x. x ++ (p ∷ [])) (e ∙ take_all i given l))

pub invariant_of-result : goal.invariant_of-result
invariant_of-result g c =
    let C = g.C.Code.coding c.args.code.now in
    let given = c.args.blocks.now in
    let blocks = c.push-3.new.self.items in
    let p = c.encode.new.p in
    let q = c.encode.new.q in
    let is : blocks ≡ (given ++ (p ∷ [])) ++ (q ∷ []) =
    joined given blocks c.loop-block.columns.items p q c.loop-block.block-index c.loop-block.invariant (omega arith) c.in_ok-push-2.ensures.items c.in_ok-push-3.ensures.items in
    let made = made_of C given blocks p q is in
    let ok : is_ok c.encode.result ≡ true = taken c.encode.result (c.encode.ensures.answered ∙ cond-true _ _ _ (le-leb (length given) C.limit (omega arith))) in
    record {
      whole = whole_of C given blocks p q is (length blocks - 2) (omega (arith, made.count)) (omega (arith, made.count)) c.requires.sized
          (written _ _ _ _ ok c.encode.ensures.p) (written _ _ _ _ ok c.encode.ensures.q);
      few = omega (arith, made.count);
      some = omega (arith, made.count);
    }

pub returns : goal.returns
returns g c = record {
  code = refl;
  made =
      made_of (g.C.Code.coding c.args.code.now) c.args.blocks.now c.push-3.new.self.items c.encode.new.p c.encode.new.q
      (joined c.args.blocks.now c.push-3.new.self.items c.loop-block.columns.items c.encode.new.p c.encode.new.q c.loop-block.block-index c.loop-block.invariant (omega arith) c.in_ok-push-2.ensures.items c.in_ok-push-3.ensures.items);
}
