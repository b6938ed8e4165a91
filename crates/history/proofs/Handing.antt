-- Reads of a history: what is handed out is the block of every content that fits, and a refusal for loss hides two.
use Rattle.std.proofs.Common.{◌≡◌, ℕ, ◌<◌, List, length, replicate, is_ok, Ok, Err, Result, sym, refl, ap, ◌∙◌}
use Rattle.std.proofs.lemmas.List.{length-replicate}
use Rattle.std.proofs.lemmas.Bool.{cond-true}
use Rattle.code.specs.Blocks.{block_size}
use Rattle.contents.specs.Columns.{Members, Frontiers}
use Rattle.contents.specs.Refusals.{Told, refusal_number}
use Rattle.contents.specs.Records.{frontiers}
use Rattle.contents.specs.Shapes.{Shape, Valid, blocks, stripe_of, column_of, recovered_at}
use Rattle.contents.specs.Answers.{read_outcome}
use Rattle.contents.proofs.Reading.{reads}
use Rattle.history.specs.Calls.{State, Answer, answered, Makes, Fits}
use Rattle.history.specs.Calls.Call.{read}
use Rattle.history.specs.Calls.Answer.{bytes, refused}
use Rattle.history.specs.History.{RefusedWith, DifferAt, ReadRight}

-- ---- answers and outcomes

-- bytes are the answer of a read that meets no check
given_by : (o : Result Unit Told) (x b : List ℕ) → answered (λ _. bytes x) o ≡ bytes b → (o ≡ Ok tt) × (x ≡ b)
given_by (Ok u) x b e = (refl, cc)
given_by (Err t) x b e = absurd cc

-- a refusal is the outcome's own, where no other answer is one
pub refused_by : {U : Type 0} (f : U → Answer) → ((u : U) (t : Told) → f u ≡ refused t → ⊥) → (o : Result U Told) (t : Told) → answered f o ≡ refused t → o ≡ Err t
refused_by f n (Ok u) t e = absurd (n u t e)
refused_by f n (Err x) t e = cc

-- ---- a read of block a
module _ (V : Shape) (L : Valid V) (σ : State) (a len : ℕ) (r : Answer) (τ : State) (m : Makes V σ (read a len) r τ) where
  abbrev M : Members
  M = σ.members

  abbrev F : Frontiers
  F = frontiers σ.records

  given : (b : List ℕ) → r ≡ bytes b → (read_outcome V M F a len ≡ Ok tt) × (recovered_at V M F (stripe_of V a) (column_of V a) ≡ b)
  given b e = given_by (read_outcome V M F a len) (recovered_at V M F (stripe_of V a) (column_of V a)) b (sym m.answer ∙ e)

  -- what is handed out is the block of whatever fits
  pub hands : (b : List ℕ) → r ≡ bytes b → (c : ℕ → List ℕ) → Fits V σ c → c a ≡ b
  hands b e c f =
      let g = given b e in
      let old : List ℕ = replicate len 0 in
      let o : read_outcome V M F a (length old) ≡ Ok tt = ap (read_outcome V M F a) (length-replicate len 0) ∙ g.0 in
      sym ((reads V L M F).hands a old o c f) ∙ cond-true _ _ _ (ap is_ok o) ∙ g.1

  pub refused_read : (t : Told) → r ≡ refused t → read_outcome V M F a len ≡ Err t
  refused_read t e = refused_by (λ _. bytes (recovered_at V M F (stripe_of V a) (column_of V a))) (λ u x d. cc) (read_outcome V M F a len) t (sym m.answer ∙ e)

  pub differ : RefusedWith 4 r → (c : ℕ → List ℕ) → Fits V σ c → DifferAt V σ a
  differ h c f =
      let d = (reads V L M F).lost c f a len (ap refusal_number (refused_read h.0 h.1) ∙ h.2) in
      (d.0, c, d.1, f, d.2)

pub read_right : (V : Shape) → Valid V → (σ : State) (a : ℕ) (r : Answer) (τ : State) → a < blocks V → (c : ℕ → List ℕ) → Fits V σ c → Makes V σ (read a block_size) r τ → ReadRight V σ a r
read_right V L σ a r τ la c f m =
    let R = reads V L σ.members (frontiers σ.records) in
    let x : List ℕ = recovered_at V σ.members (frontiers σ.records) (stripe_of V a) (column_of V a) in
    record {
      answered = λ g. (x, m.answer ∙ ap (answered (λ _. bytes x)) (R.answered c f a la g));
      agree = λ b e. R.agree a (given V L σ a block_size r τ m b e).0;
      shared = λ b e. hands V L σ a block_size r τ m b e;
    }
