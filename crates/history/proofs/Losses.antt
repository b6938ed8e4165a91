-- Refusals for loss in the answers of a history.
use Rattle.std.proofs.Common.{◌≡◌, ℕ, ◌<◌, true, List, length, Ok, Err, Result, sym, refl, ap, ◌∙◌, subst, arith}
use Rattle.code.specs.Blocks.{block_size}
use Rattle.contents.specs.Refusals.{Told, refusal_number}
use Rattle.contents.specs.Records.{Records, frontiers}
use Rattle.contents.specs.Shapes.{Shape, blocks, stripe_of}
use Rattle.contents.specs.Answers.{write_outcome, scrub_outcome}
use Rattle.contents.specs.Theorems as theorems
use Rattle.contents.specs.Rebuilds.{open_here, step_outcome}
use Rattle.contents.proofs.Losing.{losses}
use Rattle.contents.proofs.Rebuilding.{rebuild_losses}
use Rattle.history.specs.Calls.{State, Answer, answered, Makes}
use Rattle.history.specs.Calls.Call.{write, scrub, step}
use Rattle.history.specs.Calls.Answer.{number, counts, refused}
use Rattle.history.specs.History.{RefusedWith, TellsLoss, ThreeLost, NamesMissing}
use Rattle.history.proofs.Handing.{refused_by}

four_by : {U : Type 0} (f : U → Answer) (o : Result U Told) → ◌≡◌ {A = ℕ} (refusal_number o) 4 → RefusedWith 4 (answered f o)
four_by f (Ok u) e = absurd (omega arith)
four_by f (Err t) e = (t, refl, e)

module _ (V : Shape) (σ τ : State) where
  -- an outcome that tells loss gives an answer that does
  tells_by : {U : Type 0} (s : ℕ) (f : U → Answer) → ((u : U) (t : Told) → f u ≡ refused t → ⊥) → (o : Result U Told) → theorems.TellsLoss V σ.members (frontiers σ.records) s o
      → (r : Answer) → r ≡ answered f o → TellsLoss V σ s r
  tells_by s f n o h r e = record {
    only = λ x. h.only (ap refusal_number (refused_by f n o x.0 (sym e ∙ x.1)) ∙ x.2);
    always = λ x. subst (RefusedWith 4) (sym e) (four_by f o (h.always x));
    names = λ t q. h.names t (refused_by f n o t (sym e ∙ q));
  }

  pub write_tells : (a : ℕ) (v : List ℕ) (r : Answer) → length v ≡ block_size → a < blocks V → Makes V σ (write a v) r τ → TellsLoss V σ (stripe_of V a) r
  write_tells a v r lv la m =
      let M = σ.members in
      let F = frontiers σ.records in
      tells_by (stripe_of V a) number (λ u x d. cc) (write_outcome V M F a block_size τ.members) ((losses V M F).write a τ.members la) r
      (m.answer ∙ ap (λ (l : ℕ). answered number (write_outcome V M F a l τ.members)) lv)

  pub scrub_tells : (s : ℕ) (r : Answer) → s < V.stripes → Makes V σ (scrub s) r τ → TellsLoss V σ s r
  scrub_tells s r ls m =
      let M = σ.members in
      let F = frontiers σ.records in
      tells_by s (λ (x : ℕ × ℕ × ℕ). counts x.0 x.1 x.2) (λ u x d. cc) (scrub_outcome V M F s) ((losses V M F).scrub s ls) r m.answer

  pub step_tells : (i : ℕ) (r : Answer) → open_here V σ.records i ≡ true → (σ.records i).frontier < V.stripes → Makes V σ (step i) r τ → TellsLoss V σ (σ.records i).frontier r
  step_tells i r o lf m =
      tells_by (σ.records i).frontier number (λ u x d. cc) (step_outcome V σ.members σ.records i) (rebuild_losses V σ.members σ.records i o lf) r m.answer

  -- a torn write names what is missing after it
  pub torn : (a : ℕ) (v : List ℕ) (r : Answer) (t : Told) → Makes V σ (write a v) r τ → r ≡ refused t → ◌≡◌ {A = ℕ} t.number 5
      → ThreeLost V τ (stripe_of V a) × NamesMissing V τ (stripe_of V a) t
  torn a v r t m e n =
      let M = σ.members in
      let F = frontiers σ.records in
      let o = refused_by number (λ u x d. cc) (write_outcome V M F a (length v) τ.members) t (sym m.answer ∙ e) in
      subst (λ (R : Records). theorems.ThreeMissing V τ.members (frontiers R) (stripe_of V a) × theorems.Names V τ.members (frontiers R) (stripe_of V a) t) (sym m.changes.1)
      ((losses V M F).torn a (length v) τ.members t o n)
