-- What the calls on a volume answer and change, check by check.
use Rattle.std.proofs.Common.{◌≡◌, ℕ, ◌*◌, ◌<◌, ◌≤◌, Bool, true, false, cond, not, ◌&&◌, eqb, ltb, List, length, is_some, is_ok, Some, None, Ok, Err, Option, Result, sym, refl, ap, ◌∙◌, subst, ap₂, ⊎_elim, mul-zero, arith}
use Rattle.std.proofs.lemmas.Bool.{false≢true, cases_eq, and_from, and_left, and_right, cond-true, cond-false, lt-ltb, le-ltb, eq-eqb, not_from_true, not_from_false, not-true, not-false}
use Rattle.code.specs.Blocks.{block_size}
use Rattle.code.specs.Codes.{Coding, Lawful}
use Rattle.code.specs.declared.Code.{Ghosts as Code}
use Rattle.parity.specs.Ways.{or_else}
use Rattle.layout.specs.Placing.{Placing}
use Rattle.layout.specs.declared.Layout.{Ghosts as Layout}
use Rattle.contents.specs.declared.Refusal.{Refusal}
use Rattle.contents.specs.Columns.{Members, Frontiers}
use Rattle.contents.specs.Refusals.{Told, outcome}
use Rattle.contents.specs.Shapes.{Shape, Valid, blocks, stripe_of, column_of, lossy}
use Rattle.contents.specs.Answers.{write_takes, scrub_takes}
use Rattle.contents.specs.Changes.{WriteChanges, ScrubChanges}
use Rattle.volume.specs.Columns.{ColumnWritten, StripeScrubbed}
use Rattle.volume.specs.declared.size.Size.{Size}
use Rattle.volume.specs.declared.volume.Volume.{Volume}
use Rattle.volume.specs.declared.grid.Grid.{Grid}
use Rattle.volume.specs.declared.slots.SlotTable.{SlotTable}
use Rattle.volume.specs.Grids.{grid_shape, grid_frontiers}
use Rattle.volume.specs.Slots.{frontier_of}
use Rattle.volume.specs.Sizes.{Fitting, size_of, shape_at}
use Rattle.volume.specs.Volumes.{shape, frontiers}
use Rattle.volume.proofs.Formatting.{size_fits}

-- ---- the shape
pub valid_at : (C : Coding) → Lawful block_size C → (slot column : ℕ → ℕ → ℕ → ℕ) → ((n s : ℕ) → Placing n (slot n s) (column n s)) → (z : Size) → Fitting C.limit z → Valid (shape_at C slot column z)
valid_at C L slot column pl z f = record {
  lawful = L;
  placed = λ s. pl z.slots s;
  reach = (let h = f.reach in omega arith);
  most = f.most;
  few = f.few;
  wide = f.wide;
}

pub grid_valid : {C L : Type 0} (K : Code C) (J : Layout L) → ((c : C) → Lawful block_size (K.coding c)) → ((l : L) (n s : ℕ) → Placing n (J.slot l n s) (J.column l n s))
    → (x : Grid C L K) → Valid (grid_shape K J x)
grid_valid K J lawful placed x =
    valid_at (K.coding x.code.now) (lawful x.code.now) (J.slot x.layout.now) (J.column x.layout.now) (placed x.layout.now) x.size x.fitting

pub volume_valid : {C L B : Type 0} (K : Code C) (J : Layout L) → ((c : C) → Lawful block_size (K.coding c)) → ((l : L) (n s : ℕ) → Placing n (J.slot l n s) (J.column l n s))
    → (v : Volume C L B) → Valid (shape K J v)
volume_valid K J lawful placed v =
    valid_at (K.coding v.code) (lawful v.code) (J.slot v.layout) (J.column v.layout) (placed v.layout) (size_of (K.coding v.code).limit v.size)
    (size_fits (K.coding v.code).limit v.size)

-- what holds of the grid of a volume's parts holds of the volume
module _ {C L B : Type 0} (K : Code C) (J : Layout L) (x : Grid C L K) (v : Volume C L B) (ec : x.code.now ≡ v.code) (el : x.layout.now ≡ v.layout) (ez : x.size ≡ size_of (K.coding v.code).limit v.size) (et : x.table.now ≡ v.table) where
  shape_is : grid_shape K J x ≡ shape K J v
  shape_is =
      ap (λ (z : Size). shape_at (K.coding x.code.now) (J.slot x.layout.now) (J.column x.layout.now) z) ez
      ∙ ap₂ (λ (c : C) (l : L). shape_at (K.coding c) (J.slot l) (J.column l) (size_of (K.coding v.code).limit v.size)) ec el

  pub as_volume : (P : Shape → Frontiers → Type 0) → P (grid_shape K J x) (grid_frontiers x) → P (shape K J v) (frontiers v)
  as_volume P h = subst (λ (F : Frontiers). P (shape K J v) F) (ap (λ (t : SlotTable). frontier_of t.rows) et) (subst (λ (V : Shape). P V (grid_frontiers x)) shape_is h)

-- ---- a column that is read
pub read_here : (o : Option (List ℕ)) (b : List ℕ) (m : Bool) (e : Told) → o ≡ Some b → ◌≡◌ {A = Result Unit Told} (Ok tt) (cond (not (is_some o) && m) (Err e) (Ok tt))
read_here o b m e h = sym (cond-false _ _ _ (and_left _ _ (not_from_true _ (ap is_some h))))

pub read_two : (o : Option (List ℕ)) (m : ℕ) (e : Told) → m ≤ 2 → ◌≡◌ {A = Result Unit Told} (Ok tt) (cond (not (is_some o) && ltb 2 m) (Err e) (Ok tt))
read_two o m e h = sym (cond-false _ _ _ (and_right (not (is_some o)) _ (le-ltb 2 m h)))

pub read_gone : (o : Option (List ℕ)) (m : ℕ) (e : Told) → o ≡ None → 2 < m → ◌≡◌ {A = Result Unit Told} (Err e) (cond (not (is_some o) && ltb 2 m) (Err e) (Ok tt))
read_gone o m e h l = sym (cond-true _ _ _ (and_from _ _ (not_from_false _ (ap is_some h)) (lt-ltb 2 m l)))

pub or_here : (o : Option (List ℕ)) (b x y : List ℕ) → o ≡ Some b → or_else o x ≡ or_else o y
or_here o b x y h = ap (λ (p : Option (List ℕ)). or_else p x) h ∙ sym (ap (λ (p : Option (List ℕ)). or_else p y) h)

pub or_none : (o : Option (List ℕ)) (x : List ℕ) → o ≡ None → or_else o x ≡ x
or_none o x h = ap (λ (p : Option (List ℕ)). or_else p x) h

pub ok_same : (r : Result Unit Refusal) → is_ok (outcome r) ≡ is_ok r
ok_same (Ok u) = refl
ok_same (Err e) = refl

-- a product above a number has no factor 0
pub factor : (a s k : ℕ) → a < s * k → 0 < k
factor a s k l = ⊎_elim (λ (z : k ≡ 0). absurd (let e : s * k ≡ 0 = ap (λ (x : ℕ). s * x) z ∙ mul-zero s in omega arith)) (λ (z : k ≡ 0 → ⊥). omega arith) (cases_eq k 0)

-- ---- what a write and a scrub change
module _ (V : Shape) (M : Members) (F : Frontiers) (a : ℕ) (v : List ℕ) where
  pub write_within : length v ≡ block_size → a < blocks V → (N : Members) (r : Result ℕ Refusal) → ColumnWritten V M F (stripe_of V a) (column_of V a) v N r → WriteChanges V M F a v N
  write_within h l N r d =
      let w : write_takes V M F a (length v) ≡ not (lossy V M F (stripe_of V a)) =
      both (eqb (length v) block_size) (ltb a (blocks V)) (not (lossy V M F (stripe_of V a))) (eq-eqb (length v) block_size h) (lt-ltb a (blocks V) l) in
      record { taken = λ q. d.taken (not-true _ (sym w ∙ q)); refused = λ q. d.refused (not-false _ (sym w ∙ q)) }
    where
      both : (a b d : Bool) → a ≡ true → b ≡ true → (a && (b && d)) ≡ d
      both true true d p q = refl
      both true false d p q = absurd (false≢true q)
      both false b d p q = absurd (false≢true p)

module _ (V : Shape) (M : Members) (F : Frontiers) (s : ℕ) where
  pub scrub_beyond : V.stripes ≤ s → ScrubChanges V M F s M
  scrub_beyond l = record { taken = λ t. absurd (false≢true (sym (and_left _ _ (le-ltb s V.stripes l)) ∙ t)); refused = λ _. refl }

  pub scrub_within : s < V.stripes → (N : Members) (r : Result (ℕ × ℕ × ℕ) Refusal) → StripeScrubbed V M F s N r → ScrubChanges V M F s N
  scrub_within l N r d =
      let w : scrub_takes V M F s ≡ not (lossy V M F s) = ap (λ (b : Bool). b && not (lossy V M F s)) (lt-ltb s V.stripes l) in
      record { taken = λ q. d.taken (not-true _ (sym w ∙ q)); refused = λ q. d.refused (not-false _ (sym w ∙ q)) }
