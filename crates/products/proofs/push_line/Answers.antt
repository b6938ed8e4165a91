use Rattle.std.proofs.Common.{◌≡◌, ℕ, ◌+◌, cond, is_ok, Ok, Err, Result, OnOk, List, [], ◌∷◌, ◌++◌, string_bytes, ap, ◌∙◌, ap₂, append_assoc, arith, lit<}
use Rattle.field.specs.Field.{times}
use Rattle.products.specs.Texts.{hex, row}
use Rattle.products.proofs.Growing.{none, more}
use Rattle.products.proofs.push_line.Goals as goal
use Rattle.products.proofs.push_line.Goals.{else-loop-b-test, then-loop-b-test+in_ok-push_hex+else-b-lt255}

pub loop-b-init : goal.loop-b-init
loop-b-init c = none (λ b. hex (times c.args.a b)) (string_bytes c.args.text.now)

pub loop-b-preserved : goal.loop-b-preserved
loop-b-preserved c =
    let was = string_bytes c.loop-b.text in
    more (λ b. hex (times c.args.a b)) (string_bytes c.args.text.now) was (string_bytes c.push_hex.new.out) c.loop-b.b c.loop-b.invariant
    (c.in_ok-push_hex.ensures.made ∙ ap (λ x. was ++ hex x) c.product.ensures.value)

-- what a last call that may fail has written
ended : {U E : Type 0} (r : Result U E) (s x y z : List ℕ) → s ≡ cond (is_ok r) x y → x ≡ z → OnOk r (s ≡ z)
ended (Ok u) s x y z e q = e ∙ q
ended (Err d) s x y z e q = tt

pub returns : goal.returns
returns c =
    let old = string_bytes c.args.text.now in
    let products : ℕ → List ℕ = λ b. hex (times c.args.a b) in
    let whole : string_bytes c.loop-b-test.text ≡ old ++ row c.args.a 256 = elim c.loop-b-test.branch [
      | else-loop-b-test w ↦ absurd (omega arith)
      | then-loop-b-test+in_ok-push_hex+else-b-lt255 w ↦
          let was = string_bytes c.loop-b.text in
          let last : c.loop-b.b + 1 ≡ 256 = omega arith in
          ap string_bytes w.text-is
          ∙ more products old was (string_bytes w.push_hex.new.out) c.loop-b.b c.loop-b.invariant (w.in_ok-push_hex.ensures.made ∙ ap (λ x. was ++ hex x) w.product.ensures.value)
          ∙ ap (λ n. old ++ row c.args.a n) last
    ] in
    record {
      added =
          ended c.push.result (string_bytes c.push.new.self) _ _ _ c.push.ensures.bytes (ap₂ ◌++◌ whole (c.push.ensures.ascii (lit< tt)) ∙ append_assoc old (row c.args.a 256) (10 ∷ []));
    }
