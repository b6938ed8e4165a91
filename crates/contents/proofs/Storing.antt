-- From single writes to the changes of a whole call, for the code that makes them.
use Rattle.std.proofs.Common.{◌≡◌, ℕ, ◌+◌, ◌<◌, Bool, false, cond, ltb, List, sym, ap, ◌∙◌, subst, arith}
use Rattle.member.specs.Meaning.{Meaning}
use Rattle.contents.specs.Columns.{Members, Frontiers}
use Rattle.contents.specs.Shapes.{Shape, Valid, data_columns}
use Rattle.contents.specs.Changes.{Moved, Put, due, new_P, new_Q, Stored, Spread}
use Rattle.contents.proofs.Fitting.{width}

-- whether a column is due is the same of members that are the same there
pub due_same : (M A : Members) (F : Frontiers) (s i : ℕ) → A i ≡ M i → due A F s i ≡ due M F s i
due_same M A F s i e = ap (λ (m : Meaning). cond m.gone false (ltb s (F i))) e

-- distinct columns lie on distinct slots
pub places_apart : (V : Shape) → Valid V → (s : ℕ) → s < V.stripes → (t u : ℕ) → t < data_columns V + 2 → u < data_columns V + 2 → (t ≡ u → ⊥) → V.place s t ≡ V.place s u → ⊥
places_apart V L s ls t u lt lu n e =
    let p = L.placed s in
    let h = width V L (omega arith) in
    n (sym (p.there t (omega arith)) ∙ ap (V.back s) e ∙ p.there u (omega arith))

-- three stores, each by the members that it meets
pub spread_of : (V : Shape) → Valid V → (M A B N : Members) (F : Frontiers) (s c : ℕ) (v p q : List ℕ) → s < V.stripes → c < data_columns V
    → p ≡ new_P V M F s c v → q ≡ new_Q V M F s c v
    → Stored V M F s c v M A → Stored V A F s (data_columns V) p A B → Stored V B F s (data_columns V + 1) q B N → Spread V M F s c v N
spread_of V L M A B N F s c v p q ls lc ep eq x y z =
    let k = data_columns V in
    let apart = places_apart V L s ls in
    let old-P : A (V.place s k) ≡ M (V.place s k) = x.others _ (apart k c (omega arith) (omega arith) (λ e. omega arith)) in
    let old-Q : B (V.place s (k + 1)) ≡ M (V.place s (k + 1)) =
    y.others _ (apart (k + 1) k (omega arith) (omega arith) (λ e. omega arith)) ∙ x.others _ (apart (k + 1) c (omega arith) (omega arith) (λ e. omega arith)) in
    record {
      after_own = A;
      after_P = B;
      own = x;
      P = as_met M A A B k p (new_P V M F s c v) old-P ep y;
      Q = as_met M B B N (k + 1) q (new_Q V M F s c v) old-Q eq z;
    }
  where
    as_met : (M A X Y : Members) (t : ℕ) (b d : List ℕ) → A (V.place s t) ≡ M (V.place s t) → b ≡ d → Stored V A F s t b X Y → Stored V M F s t d X Y
    as_met M A X Y t b d e f w =
        subst (λ (x : List ℕ). Stored V M F s t x X Y) f
        (subst (λ (g : Bool). Moved (Put g s b) (V.place s t) X Y) (due_same M A F s (V.place s t) e) w)
