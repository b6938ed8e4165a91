use Rattle.std.proofs.Common.{◌≡◌, ◌+◌, ◌<◌, true, false, length, Some, sym, ap, ◌∙◌, subst, arith}
use Rattle.std.proofs.lemmas.Bool.{cond-true, cond-false, ltb-true, ltb-false}
use Rattle.member.specs.declared.Cause.TheVariants.{Unwritable}
use Rattle.member.specs.Faults.{raised, above, refusal, refused_with}
use Rattle.member.specs.Meaning.{write_refusal, put_refusal}
use Rattle.remap.specs.Places.{table_of, place, used, left, moved_on}
use Rattle.remap.specs.Remapped.{layer, remap_at, tries}
use Rattle.remap.specs.Tables.{table_within, moved_here, none_left, some_left}
use Rattle.remap.specs.Tries.{Trying, trying_none, trying_all, trying_spent, trying_more}
use Rattle.remap.proofs.Remap.put.Goals as goal

pub loop-answer-init : goal.loop-answer-init
loop-answer-init g c =
    let s = c.args.self.now in
    let ef = c.first-first.ensures.value in (
      c.place-at.ensures.value ∙ ap (λ k. place (table_of s.moves) k c.args.block) (sym ef),
      trying_none g.M.Member.meaning g.M.Member.wrote c.first-first.result c.args.block c.args.bytes.now (g.M.Member.state s.below)
          (table_of s.moves) (omega (arith, ef, c.requires.good.there)),
    )

pub returns-then-not-refused_with : goal.returns-then-not-refused_with
returns-then-not-refused_with g c =
    let M = g.M.Member in
    let s = c.loop-answer.self in
    let u = table_of s.moves in
    let x = M.state s.below in
    let first = c.first-first.result in
    let ef = c.first-first.ensures.value in
    let from = M.state c.args.self.now.below in
    let t = table_of c.args.self.now.moves in
    let there : c.args.block < first = omega (arith, ef, c.requires.good.there) in
    let b = c.args.block in
    let v = c.args.bytes.now in
    let p = place u first b in
    let e = c.loop-answer.invariant.0 in
    let said : refusal c.write-answer.result ≡ write_refusal (M.meaning x) p (length v) =
    c.write-answer.ensures.answered ∙ ap (λ q. write_refusal (M.meaning x) q (length v)) e in
    let other : refused_with 3 (write_refusal (M.meaning x) p (length v)) ≡ false =
    ap (refused_with 3) (sym said) ∙ sym c.if-not-refused_with.ensures.value in
    let q = trying_all M.sound M.meaning M.seen M.wrote M.ticked M.renewed g.met.M.Member.lawful first b v c.requires.good.sized
    there from t x u (g.met.M.Member.holds s.below)
    (table_within s.moves) c.loop-answer.invariant.1 other in
    record {
      answered = said ∙ q.0 ∙ ap (λ k. put_refusal (remap_at t k (M.meaning from)) b) ef;
      exact = ap (λ y. layer y u) (c.write-answer.ensures.exact ∙ ap (λ r. M.wrote x r v) e) ∙ q.1
          ∙ ap (λ k. tries M.meaning M.wrote k b v (left t) from t) ef;
    }

pub returns-in_default : goal.returns-in_default
returns-in_default g c =
    let M = g.M.Member in
    let s = c.loop-answer.self in
    let u = table_of s.moves in
    let x = M.state s.below in
    let first = c.first-first.result in
    let ef = c.first-first.ensures.value in
    let from = M.state c.args.self.now.below in
    let t = table_of c.args.self.now.moves in
    let there : c.args.block < first = omega (arith, ef, c.requires.good.there) in
    let b = c.args.block in
    let v = c.args.bytes.now in
    let p = place u first b in
    let e = c.loop-answer.invariant.0 in
    let said : refusal c.write-answer.result ≡ write_refusal (M.meaning x) p (length v) =
    c.write-answer.ensures.answered ∙ ap (λ q. write_refusal (M.meaning x) q (length v)) e in
    let three : refused_with 3 (write_refusal (M.meaning x) p (length v)) ≡ true =
    ap (refused_with 3) (sym said) ∙ sym c.if-not-refused_with.ensures.value in
    let none = none_left u c.in_default.ensures.value in
    let full : left u ≡ 0 = omega (arith, ltb-false (used u) u.spares none) in
    let q = trying_spent M.sound M.meaning M.seen M.wrote M.ticked M.renewed g.met.M.Member.lawful first b v c.requires.good.sized
    there from t x u (g.met.M.Member.holds s.below)
    (table_within s.moves) c.loop-answer.invariant.1 three full in
    let exact : M.state c.write-answer.new.self ≡ M.wrote x p v = c.write-answer.ensures.exact ∙ ap (λ r. M.wrote x r v) e in
    let same : table_of c.take.new.self ≡ u = c.in_default.ensures.after ∙ cond-false _ _ _ none in
    record {
      answered =
          ap Some c.own.ensures.value
          ∙ ap (λ y. Some (raised Unwritable (record { height = above (M.meaning y).height; block = b }))) exact ∙ q.0
          ∙ ap (λ k. put_refusal (remap_at t k (M.meaning from)) b) ef;
      exact = ap (λ y. layer y (table_of c.take.new.self)) exact ∙ ap (layer (M.wrote x p v)) same ∙ q.1
          ∙ ap (λ k. tries M.meaning M.wrote k b v (left t) from t) ef;
    }

pub loop-answer-preserved : goal.loop-answer-preserved
loop-answer-preserved g c =
    let M = g.M.Member in
    let s = c.loop-answer.self in
    let u = table_of s.moves in
    let x = M.state s.below in
    let first = c.first-first.result in
    let ef = c.first-first.ensures.value in
    let from = M.state c.args.self.now.below in
    let t = table_of c.args.self.now.moves in
    let there : c.args.block < first = omega (arith, ef, c.requires.good.there) in
    let b = c.args.block in
    let v = c.args.bytes.now in
    let p = place u first b in
    let e = c.loop-answer.invariant.0 in
    let said : refusal c.write-answer.result ≡ write_refusal (M.meaning x) p (length v) =
    c.write-answer.ensures.answered ∙ ap (λ q. write_refusal (M.meaning x) q (length v)) e in
    let three : refused_with 3 (write_refusal (M.meaning x) p (length v)) ≡ true =
    ap (refused_with 3) (sym said) ∙ sym c.if-not-refused_with.ensures.value in
    let some = some_left u c.in-Some.spare c.in-Some.ensures.value in
    let exact : M.state c.write-answer.new.self ≡ M.wrote x p v = c.write-answer.ensures.exact ∙ ap (λ r. M.wrote x r v) e in
    let next : table_of c.take.new.self ≡ moved_on u b = c.in-Some.ensures.after ∙ cond-true _ _ _ some.0 in
    let on = trying_more M.sound M.meaning M.seen M.wrote M.ticked M.renewed g.met.M.Member.lawful first b v c.requires.good.sized
    there from t x u (g.met.M.Member.holds s.below) (table_within s.moves) c.loop-answer.invariant.1 three
    (ltb-true (used u) u.spares some.0) (λ i. (c.type_inv.bytes i).fits) in (
      ap (λ k. first + k) some.1 ∙ sym (moved_here u first b) ∙ ap (λ w. place w first b) (sym next),
      subst (λ w. Trying M.meaning M.wrote first b v from t (M.state c.write-answer.new.self) w) (sym next)
          (subst (λ y. Trying M.meaning M.wrote first b v from t y (moved_on u b)) (sym exact) on),
    )
