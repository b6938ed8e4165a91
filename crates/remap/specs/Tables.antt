-- Where blocks stand: every place is one below, two blocks have two places, and a move changes the place of one block.
use Rattle.std.specs.Prelude.{◌≡◌, ℕ, zero, suc, ◌+◌, ◌<◌, ◌≤◌, Bool, true, false, cond, ◌≢◌, List, [], ◌∷◌, length, Some, None, Option, ◌==◌, nat_lt, slice_set, refl}
use Rattle.std.proofs.Common.{sym, ap, ◌∙◌, arith, add-one, get_or-set_same, get_or-set_other}
use Rattle.std.specs.Option.{unwrap_or}
use Rattle.std.proofs.lemmas.Bool.{cond_both, cond-true, cond-false, eqb-true, eq-eqb, ne_eqb}
use Rattle.remap.specs.declared.moves.Moves.{Moves}
use Rattle.remap.specs.Places.{Table, newest, table_of, given, standing, place, used, moved_on, next_spare}

-- ---- the list of moves of an array
pub length_newest : (xs : List ℕ) (n : ℕ) → length (newest xs n) ≡ n
length_newest xs zero = refl
length_newest xs (suc n) = ap suc (length_newest xs n)

-- no more spares were used than there are
pub table_within : (x : Moves) → used (table_of x) ≤ x.spares
table_within x = omega (arith, length_newest x.from x.used, x.within)

-- an entry written further on changes no move before
newest_set : (xs : List ℕ) (n b m : ℕ) → m ≤ n → newest (slice_set xs n b) m ≡ newest xs m
newest_set xs n b zero h = refl
newest_set xs n b (suc m) h =
    let ne : m ≢ n = omega arith in
    let ih : newest (slice_set xs n b) m ≡ newest xs m = newest_set xs n b m (omega arith) in
    rw (get_or-set_other xs n m b 0 ne, ih)

pub newest_push : (xs : List ℕ) (n b : ℕ) → n < length xs → newest (slice_set xs n b) (n + 1) ≡ b ∷ newest xs n
newest_push xs n b room =
    rw (add-one, get_or-set_same xs n b 0 room, newest_set xs n b n (omega arith))

pub given_low : (xs : List ℕ) (b : ℕ) → unwrap_or (given xs b) 0 ≤ length xs
given_low [] b = omega arith
given_low (x ∷ xs) b =
    cond_both (x == b) (Some (length xs)) (given xs b) (λ o. unwrap_or o 0 ≤ suc (length xs)) (λ e. omega arith)
    (λ e. let ih = given_low xs b in omega arith)

-- ---- places
-- the block that used spare i was given to
owner : List ℕ → ℕ → ℕ
owner [] i = 0
owner (x ∷ xs) i = cond (i == length xs) x (owner xs i)

-- block b stands at its own number, or at a used spare that was given to it
data Stands (xs : List ℕ) (first b : ℕ) (o : Option ℕ) : Type 0 where
  own_place : standing first b o ≡ b → Stands xs first b o
  spare_place : (i : ℕ) → i < length xs → standing first b o ≡ first + i → owner xs i ≡ b → Stands xs first b o

later : (x : ℕ) (xs : List ℕ) (first b : ℕ) (o : Option ℕ) → Stands xs first b o → Stands (x ∷ xs) first b o
unfolding owner
later x xs first b o (own_place e) = own_place e
later x xs first b o (spare_place i lt e w) =
    spare_place i (omega arith) e (cond-false _ _ _ (ne_eqb i (length xs) (λ q. omega arith)) ∙ w)

stands : (xs : List ℕ) (first b : ℕ) → Stands xs first b (given xs b)
unfolding owner
stands [] first b = own_place refl
stands (x ∷ xs) first b =
    cond_both (x == b) (Some (length xs)) (given xs b) (Stands (x ∷ xs) first b)
    (λ e. spare_place (length xs) (omega arith) refl (cond-true _ _ _ (eq-eqb (length xs) (length xs) refl) ∙ eqb-true x b e))
    (λ e. later x xs first b (given xs b) (stands xs first b))

below_of : (xs : List ℕ) (first b : ℕ) (o : Option ℕ) → b < first → Stands xs first b o → standing first b o < first + length xs
below_of xs first b o h (own_place e) = omega arith
below_of xs first b o h (spare_place i lt e w) = omega arith

apart_of : (xs : List ℕ) (first b k : ℕ) (o p : Option ℕ) → b < first → k < first → (k ≢ b) → Stands xs first k o → Stands xs first b p
    → standing first k o ≢ standing first b p
apart_of xs first b k o p hb hk ne (own_place e) (own_place f) q = ne (omega arith)
apart_of xs first b k o p hb hk ne (own_place e) (spare_place j jt f z) q = omega arith
apart_of xs first b k o p hb hk ne (spare_place i it e w) (own_place f) q = omega arith
apart_of xs first b k o p hb hk ne (spare_place i it e w) (spare_place j jt f z) q =
    let same : i ≡ j = omega arith in ne (sym w ∙ ap (owner xs) same ∙ z)

module _ (t : Table) (first : ℕ) where
  pub place_below : (b : ℕ) → b < first → place t first b < first + used t
  place_below b h = below_of t.moves first b (given t.moves b) h (stands t.moves first b)

  -- two blocks stand at two places
  pub place_apart : (b k : ℕ) → b < first → k < first → (k ≢ b) → place t first k ≢ place t first b
  place_apart b k hb hk ne =
      apart_of t.moves first b k (given t.moves k) (given t.moves b) hb hk ne (stands t.moves first k) (stands t.moves first b)

  -- a block that is moved stands at the new spare, and the others stay
  pub moved_here : (b : ℕ) → place (moved_on t b) first b ≡ first + used t
  moved_here b = ap (standing first b) (cond-true _ _ _ (eq-eqb b b refl))

  pub moved_other : (b k : ℕ) → (k ≢ b) → place (moved_on t b) first k ≡ place t first k
  moved_other b k ne = ap (standing first k) (cond-false _ _ _ (ne_eqb b k (λ e. ne (sym e))))

-- ---- the next spare
none_cond : (more : Bool) (i : ℕ) → None ≡ cond more (Some i) None → more ≡ false
none_cond true i e = let z : ◌≡◌ {A = ℕ} 0 1 = cc in absurd (omega arith)
none_cond false i e = refl

some_cond : (more : Bool) (i j : ℕ) → Some j ≡ cond more (Some i) None → (more ≡ true) × (j ≡ i)
some_cond true i j e = (refl, cc)
some_cond false i j e = let z : ◌≡◌ {A = ℕ} 0 1 = cc in absurd (omega arith)

module _ (t : Table) where
  pub none_left : None ≡ next_spare t → nat_lt (used t) t.spares ≡ false
  none_left e = none_cond (nat_lt (used t) t.spares) (used t) e

  pub some_left : (i : ℕ) → Some i ≡ next_spare t → (nat_lt (used t) t.spares ≡ true) × (i ≡ used t)
  some_left i e = some_cond (nat_lt (used t) t.spares) (used t) i e
