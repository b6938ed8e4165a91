-- A write of a remap layer, try by try.
use Rattle.std.specs.Prelude.{◌≡◌, ℕ, zero, suc, ◌+◌, ◌-◌, ◌<◌, ◌≤◌, min, Bool, true, false, cond, ◌||◌, List, [], ◌∷◌, length, Some, None, ◌≢◌, nat_lt, slice_index, refl}
use Rattle.std.proofs.Common.{sym, ap₂, subst, ◌∙◌, ⊎_elim, lit<}
use Rattle.std.proofs.Math.Path.{ap}
use native.Mathlib.Omega.{arith}
use Rattle.std.proofs.lemmas.Bool.{cond_both, cond-true, cond-false, lt-ltb, cases_eq, or_cases, or_left, or_right, or_from, or_parts, true≢false, false≢true}
use Rattle.code.specs.Blocks.{Bytes}
use Rattle.member.specs.declared.Cause.TheVariants.{Gone, Unwritable}
use Rattle.member.specs.Faults.{Origin, raised, above, refused_with}
use Rattle.member.specs.Meaning.{Meaning, own, write_refusal, put_refusal}
use Rattle.member.specs.Changes.{Level, Kept, Taken, Spoiled, Lawful}
use Rattle.member.specs.Outcomes.{Outcome, gone_way, taken_way, spoiled_way, outcome, good_write}
use Rattle.remap.specs.Places.{Table, place, used, left, moved_on}
use Rattle.remap.specs.Remapped.{any_from, remap_at, Layer, layer, LayerSound, clipped, tries}
use Rattle.remap.specs.Tables.{place_below, place_apart, moved_here, moved_other}

-- ---- whether one of several blocks is writable
pub any_same : (v w : ℕ → Bool) (p n : ℕ) → ((j : ℕ) → j < p + n → v j ≡ w j) → any_from v p n ≡ any_from w p n
any_same v w p zero h = refl
any_same v w p (suc n) h = rw (h p (omega arith), any_same v w (suc p) n (λ j lt. h j (omega arith)))

pub any_less : (v w : ℕ → Bool) (p n : ℕ) → ((j : ℕ) → j < p + n → v j ≡ true → w j ≡ true) → any_from v p n ≡ true → any_from w p n ≡ true
any_less v w p zero h e = e
any_less v w p (suc n) h e =
    ⊎_elim (λ a. or_left (w p) _ (h p (omega arith) a))
    (λ a. or_right (w p) _ (any_less v w (suc p) n (λ j lt. h j (omega arith)) a))
    (or_cases (v p) (any_from v (suc p) n) e)

-- ---- a block of the layer and its place below
module _ (t : Table) (first : ℕ) (m : Meaning) where
  pub block_in : (b : ℕ) → b < first → (remap_at t first m).block b ≡ m.block (place t first b)
  block_in b lt = cond-true _ _ _ (lt-ltb b first lt)

  pub inside : used t ≤ t.spares → first + t.spares ≤ m.count → (b : ℕ) → b < first → place t first b < m.count
  inside within room b lt = let h = place_below t first b lt in omega arith

-- ---- block k is kept where its place below is
kept_in : (t : Table) (first : ℕ) (m n : Meaning) (k : ℕ) → k < first → n.height ≡ m.height → Kept m n (place t first k)
    → Kept (remap_at t first m) (remap_at t first n) k
kept_in t first m n k lt high h = record {
  block = block_in t first n k lt ∙ h.block ∙ sym (block_in t first m k lt);
  gone_origin = h.gone_origin;
  unreadable_origin = h.unreadable_origin;
  unwritable_origin = ap (λ x. record { height = above x; block = k }) high;
}

-- ---- a write below at the place of block b
module _ (t : Table) (first : ℕ) (m n : Meaning) (b : ℕ) (within : used t ≤ t.spares) (room : first + t.spares ≤ m.count) (hb : b < first) where
  down : (k : ℕ) → k < first → place t first k < m.count
  down k lt = inside t first m within room k lt

  others_in : n.height ≡ m.height → ((k : ℕ) → k < m.count → (k ≢ place t first b) → Kept m n k)
      → (k : ℕ) → k < first → (k ≢ b) → Kept (remap_at t first m) (remap_at t first n) k
  others_in high h k lt ne = kept_in t first m n k lt high (h (place t first k) (down k lt) (place_apart t first b k hb lt ne))

  -- accepted below, accepted by the layer
  taken_in : (v : List ℕ) → Taken m (place t first b) v n → Taken (remap_at t first m) b v (remap_at t first n)
  taken_in v h = record {
    level = record { count = refl; height = ap above h.level.height };
    gone = h.gone;
    here = block_in t first n b hb ∙ h.here;
    others = others_in h.level.height h.others;
    costs = λ k lt e.
        ⊎_elim (λ a. or_left _ _ (h.costs (place t first k) (down k lt) a))
        (λ a. or_right (m.writable (place t first k)) _
        (any_less n.writable m.writable (first + used t) (left t) (λ j l. h.costs j (omega arith)) a))
        (or_cases (n.writable (place t first k)) _ e);
  }

  -- refused below with 3: writability is as it was
  writable_in : Spoiled m (place t first b) n → (k : ℕ) → k < first → (remap_at t first n).writable k ≡ (remap_at t first m).writable k
  writable_in h k lt =
      ap (λ x. x || any_from n.writable (first + used t) (left t)) (h.writable (place t first k) (down k lt))
      ∙ ap (λ x. m.writable (place t first k) || x)
      (any_same n.writable m.writable (first + used t) (left t) (λ j l. h.writable j (omega arith)))

  spoiled_in : Spoiled m (place t first b) n → Spoiled (remap_at t first m) b (remap_at t first n)
  spoiled_in h = record {
    level = record { count = refl; height = ap above h.level.height };
    gone = h.gone;
    here = block_in t first n b hb ∙ h.here;
    again = ap (λ x. record { height = above x; block = b }) h.level.height;
    others = others_in h.level.height h.others;
    writable = writable_in h;
  }

-- ---- a try that was refused with 3, after which the next spare is tried
-- What the layer means is changed, but not for this write: it meets the same in n as it would have in r.
record Passed (r : Meaning) (b : ℕ) (n : Meaning) : Type 0 where
  level : Level r n
  present : r.gone ≡ false
  gone : n.gone ≡ r.gone
  again : n.unwritable_origin b ≡ r.unwritable_origin b
  others : (k : ℕ) → k < r.count → (k ≢ b) → Kept r n k
  alike : n.writable b ≡ r.writable b
  costs : (k : ℕ) → k < r.count → n.writable k ≡ true → r.writable k ≡ true
  shut : r.writable b ≡ false → (k : ℕ) → k < r.count → n.writable k ≡ r.writable k

kept_on : (r n o : Meaning) (k : ℕ) → Kept r n k → Kept n o k → Kept r o k
kept_on r n o k g h = record {
  block = h.block ∙ g.block;
  gone_origin = h.gone_origin ∙ g.gone_origin;
  unreadable_origin = h.unreadable_origin ∙ g.unreadable_origin;
  unwritable_origin = h.unwritable_origin ∙ g.unwritable_origin;
}

level_on : (r n o : Meaning) → Level r n → Level n o → Level r o
level_on r n o g h = record { count = h.count ∙ g.count; height = h.height ∙ g.height }

passed_outcome : (r n o : Meaning) (b : ℕ) (v : List ℕ) → Passed r b n → Outcome n b v o → Outcome r b v o
passed_outcome r n o b v p (gone_way e same) = absurd (true≢false (sym e ∙ p.gone ∙ p.present))
passed_outcome r n o b v p (taken_way e w h) =
    taken_way p.present (sym p.alike ∙ w)
    (record {
      level = level_on r n o p.level h.level;
      gone = h.gone ∙ p.gone;
      here = h.here;
      others = λ k lt ne. kept_on r n o k (p.others k lt ne) (h.others k (omega (arith, p.level.count)) ne);
      costs = λ k lt c. p.costs k lt (h.costs k (omega (arith, p.level.count)) c);
    })
passed_outcome r n o b v p (spoiled_way e w h) =
    let shut : r.writable b ≡ false = sym p.alike ∙ w in
    spoiled_way p.present shut
    (record {
      level = level_on r n o p.level h.level;
      gone = h.gone ∙ p.gone;
      here = h.here;
      again = h.again ∙ p.again;
      others = λ k lt ne. kept_on r n o k (p.others k lt ne) (h.others k (omega (arith, p.level.count)) ne);
      writable = λ k lt. h.writable k (omega (arith, p.level.count)) ∙ p.shut shut k lt;
    })

-- so the layer answers the same
passed_refusal : (r n : Meaning) (b : ℕ) → Passed r b n → put_refusal n b ≡ put_refusal r b
passed_refusal r n b p =
    cond-false _ _ _ (p.gone ∙ p.present)
    ∙ ap (λ w. cond w None (Some (raised Unwritable (n.unwritable_origin b)))) p.alike
    ∙ ap (λ o. cond (r.writable b) None (Some (raised Unwritable o))) p.again
    ∙ sym (cond-false _ _ _ p.present)

module _ (t : Table) (first : ℕ) (m n : Meaning) (b : ℕ) (more : used t < t.spares) (room : first + t.spares ≤ m.count) (hb : b < first)
    (present : m.gone ≡ false) (shut : m.writable (place t first b) ≡ false) (h : Spoiled m (place t first b) n) where
  spare : Bool
  spare = m.writable (first + used t)

  rest : (ℕ → Bool) → Bool
  rest w = any_from w (first + suc (used t)) (t.spares - suc (used t))

  within : used t ≤ t.spares
  within = omega arith

  rest_same : rest n.writable ≡ rest m.writable
  unfolding rest
  rest_same =
      any_same n.writable m.writable (first + suc (used t)) (t.spares - suc (used t)) (λ j l. h.writable j (omega arith))

  old : (k : ℕ) → (remap_at t first m).writable k ≡ (m.writable (place t first k) || (spare || rest m.writable))
  unfolding spare rest
  old k =
      let a : t.spares - used t ≡ suc (t.spares - suc (used t)) = omega arith in
      let e : suc (first + used t) ≡ first + suc (used t) = omega arith in
      ap (λ x. m.writable (place t first k) || any_from m.writable (first + used t) x) a
      ∙ ap (λ p. m.writable (place t first k) || (m.writable (first + used t) || any_from m.writable p (t.spares - suc (used t)))) e

  new : (k p : ℕ) → place (moved_on t b) first k ≡ p → p < m.count
      → (remap_at (moved_on t b) first n).writable k ≡ (m.writable p || rest m.writable)
  unfolding rest
  new k p e lt =
      ap (λ x. n.writable x || rest n.writable) e ∙ ap (λ x. x || rest n.writable) (h.writable p lt) ∙ ap (λ x. m.writable p || x) rest_same

  new_here : (remap_at (moved_on t b) first n).writable b ≡ (spare || rest m.writable)
  unfolding spare
  new_here = new b (first + used t) (moved_here t first b) (omega arith)

  new_other : (k : ℕ) → k < first → (k ≢ b) → (remap_at (moved_on t b) first n).writable k ≡ (m.writable (place t first k) || rest m.writable)
  new_other k lt ne = new k (place t first k) (moved_other t first b k ne) (inside t first m within room k lt)

  here_alike : (remap_at (moved_on t b) first n).writable b ≡ (remap_at t first m).writable b
  here_alike = new_here ∙ sym (old b ∙ ap (λ x. x || (spare || rest m.writable)) shut)

  moved_kept : (k : ℕ) → k < first → (k ≢ b) → Kept (remap_at t first m) (remap_at (moved_on t b) first n) k
  moved_kept k lt ne =
      let a : Kept (remap_at t first m) (remap_at t first n) k = others_in t first m n b within room hb h.level.height h.others k lt ne in
      let e : place (moved_on t b) first k ≡ place t first k = moved_other t first b k ne in
      record {
        block = ap (λ p. cond (nat_lt k first) (n.block p) None) e ∙ a.block;
        gone_origin = ap n.gone_origin e ∙ a.gone_origin;
        unreadable_origin = ap n.unreadable_origin e ∙ a.unreadable_origin;
        unwritable_origin = a.unwritable_origin;
      }

  passed_on : Passed (remap_at t first m) b (remap_at (moved_on t b) first n)
  passed_on = record {
    level = record { count = refl; height = ap above h.level.height };
    present = present;
    gone = h.gone;
    again = ap (λ x. record { height = above x; block = b }) h.level.height;
    others = moved_kept;
    alike = here_alike;
    costs = λ k lt e.
        ⊎_elim
        (λ (q : k ≡ b). subst (λ j. (remap_at t first m).writable j ≡ true) (sym q)
        (sym here_alike ∙ subst (λ j. (remap_at (moved_on t b) first n).writable j ≡ true) q e))
        (λ (q : k ≡ b → ⊥).
        old k ∙
        ⊎_elim (λ a. or_left (m.writable (place t first k)) _ a)
        (λ a. or_right (m.writable (place t first k)) _ (or_right spare (rest m.writable) a))
        (or_cases (m.writable (place t first k)) (rest m.writable) (sym (new_other k lt q) ∙ e)))
        (cases_eq k b);
    shut = λ e k lt.
        ⊎_elim
        (λ (q : k ≡ b). subst (λ j. (remap_at (moved_on t b) first n).writable j ≡ (remap_at t first m).writable j) (sym q) here_alike)
        (λ (q : k ≡ b → ⊥).
        let s : spare ≡ false = (or_parts spare (rest m.writable) (sym new_here ∙ here_alike ∙ e)).0 in
        new_other k lt q ∙ sym (old k ∙ ap (λ x. m.writable (place t first k) || (x || rest m.writable)) s))
        (cases_eq k b);
  }

-- ---- lists of numbers as bytes
pub length_clipped : (v : List ℕ) → length (clipped v) ≡ length v
length_clipped [] = refl
length_clipped (x ∷ xs) = ap suc (length_clipped xs)

low_clipped : (v : List ℕ) (i : ℕ) → slice_index (clipped v) i < 256
low_clipped [] i = lit< tt
low_clipped (x ∷ xs) zero = omega arith
low_clipped (x ∷ xs) (suc i) = low_clipped xs i

pub bytes_clipped : (v : List ℕ) → Bytes (length (clipped v)) (clipped v)
bytes_clipped v = record { long = refl; bytes = low_clipped v }

pub clipped_same : (v : List ℕ) → ((i : ℕ) → slice_index v i < 256) → clipped v ≡ v
clipped_same [] h = refl
clipped_same (x ∷ xs) h =
    let low : min 255 x ≡ x = omega (arith, h 0) in ap₂ ◌∷◌ low (clipped_same xs (λ i. h (suc i)))

-- ---- what a refusal with 3 tells, and another answer
three : (gone writable : Bool) (o p : Origin)
    → refused_with 3 (cond gone (Some (raised Gone o)) (cond writable None (Some (raised Unwritable p)))) ≡ true
    → (gone ≡ false) × (writable ≡ false)
three true writable o p e = absurd (false≢true e)
three false true o p e = absurd (false≢true e)
three false false o p e = (refl, refl)

is_three : (gone writable : Bool) (o p : Origin) → gone ≡ false → writable ≡ false
    → refused_with 3 (cond gone (Some (raised Gone o)) (cond writable None (Some (raised Unwritable p)))) ≡ true
is_three gone writable o p e w = ap (λ g. refused_with 3 (cond g (Some (raised Gone o)) (cond writable None (Some (raised Unwritable p))))) e
    ∙ ap (λ x. refused_with 3 (cond x None (Some (raised Unwritable p)))) w

module _ (m : Meaning) (p n : ℕ) (sized : n ≡ 512) (there : p < m.count) where
  pub refused_shut : refused_with 3 (write_refusal m p n) ≡ true → (m.gone ≡ false) × (m.writable p ≡ false)
  refused_shut e = three m.gone (m.writable p) (m.gone_origin p) (m.unwritable_origin p) (ap (refused_with 3) (sym (good_write m p there n sized)) ∙ e)

  pub shut_refused : m.gone ≡ false → m.writable p ≡ false → refused_with 3 (write_refusal m p n) ≡ true
  shut_refused e w = ap (refused_with 3) (good_write m p there n sized) ∙ is_three m.gone (m.writable p) (m.gone_origin p) (m.unwritable_origin p) e w

pub outcome_count : (m : Meaning) (p : ℕ) (v : List ℕ) (n : Meaning) → Outcome m p v n → n.count ≡ m.count
outcome_count m p v n (gone_way e same) = ap (λ x. x.count) same
outcome_count m p v n (taken_way e w h) = h.level.count
outcome_count m p v n (spoiled_way e w h) = h.level.count

spoiled_of : (m : Meaning) (p : ℕ) (v : List ℕ) (n : Meaning) → m.gone ≡ false → m.writable p ≡ false → Outcome m p v n → Spoiled m p n
spoiled_of m p v n e w (gone_way f same) = absurd (false≢true (sym e ∙ f))
spoiled_of m p v n e w (taken_way f x h) = absurd (false≢true (sym w ∙ x))
spoiled_of m p v n e w (spoiled_way f x h) = h

-- ---- the last try: it is not refused with 3, or no spare is left
stop_outcome : (t : Table) (first : ℕ) (m n : Meaning) (b : ℕ) (v : List ℕ) → used t ≤ t.spares → first + t.spares ≤ m.count → b < first
    → (m.gone ≡ false → m.writable (place t first b) ≡ false → left t ≡ 0) → Outcome m (place t first b) v n
    → Outcome (remap_at t first m) b v (remap_at t first n)
stop_outcome t first m n b v within room hb last (gone_way e same) = gone_way e (ap (remap_at t first) same)
stop_outcome t first m n b v within room hb last (taken_way e w h) = taken_way e (or_left _ _ w) (taken_in t first m n b within room hb v h)
stop_outcome t first m n b v within room hb last (spoiled_way e w h) =
    spoiled_way e (or_from _ _ w (ap (any_from m.writable (first + used t)) (last e w))) (spoiled_in t first m n b within room hb h)

-- an answer other than 3 is the layer's own
answer_stays : (gone writable spare : Bool) (o p q : Origin)
    → refused_with 3 (cond gone (Some (raised Gone o)) (cond writable None (Some (raised Unwritable p)))) ≡ false
    → cond gone (Some (raised Gone o)) (cond writable None (Some (raised Unwritable p)))
    ≡ cond gone (Some (raised Gone o)) (cond (writable || spare) None (Some (raised Unwritable q)))
answer_stays true writable spare o p q e = refl
answer_stays false true spare o p q e = refl
answer_stays false false spare o p q e = absurd (true≢false e)

-- ---- all tries
module _ {S : Type 0} (mean : S → Meaning) (write : S → ℕ → List ℕ → S) (first b : ℕ) (v : List ℕ) where
  -- The layer was s and t when the write began, and is x and u before the next try: it ends as it would have from the start.
  pub record Trying (s : S) (t : Table) (x : S) (u : Table) : Type 0 where
    pub same : tries mean write first b v (left u) x u ≡ tries mean write first b v (left t) s t
    pub answer : put_refusal (remap_at u first (mean x)) b ≡ put_refusal (remap_at t first (mean s)) b
    pub room : first + u.spares ≤ (mean x).count

  pub trying_none : (s : S) (t : Table) → first + t.spares ≤ (mean s).count → Trying s t s t
  trying_none s t room = record { same = refl; answer = refl; room = room }

  pub tries_end : (n : ℕ) (s : S) (t : Table) → refused_with 3 (write_refusal (mean s) (place t first b) (length v)) ≡ false
      → layer (write s (place t first b) v) t ≡ tries mean write first b v n s t
  tries_end zero s t e = refl
  tries_end (suc n) s t e = sym (cond-false _ _ _ e)

  pub tries_next : (n k : ℕ) (s : S) (t : Table) → n ≡ suc k → refused_with 3 (write_refusal (mean s) (place t first b) (length v)) ≡ true
      → tries mean write first b v k (write s (place t first b) (clipped v)) (moved_on t b) ≡ tries mean write first b v n s t
  tries_next n k s t q e = sym (ap (λ j. tries mean write first b v j s t) q ∙ cond-true _ _ _ e)

-- what the tries to write v to block b of a layer that meant r end in, over a member of k blocks, of which n are spares
pub record Ended {S : Type 0} (mean : S → Meaning) (first b : ℕ) (v : List ℕ) (r : Meaning) (k n : ℕ) (x : Layer S) : Type 0 where
  pub outcome : Outcome r b v (remap_at x.table first (mean x.below))
  pub count : (mean x.below).count ≡ k
  pub spares : x.table.spares ≡ n

module _ {S : Type 0} (sound : S → Type 0) (mean : S → Meaning) (see : S → ℕ → ℕ → S) (write : S → ℕ → List ℕ → S) (tick renew : S → S)
    (law : Lawful sound mean see write tick renew) (first b : ℕ) (v : List ℕ) (sized : length v ≡ 512) (hb : b < first) where
  module _ (s : S) (t : Table) (ok : sound s) (within : used t ≤ t.spares) (room : first + t.spares ≤ (mean s).count) where
    there : place t first b < (mean s).count
    there = inside t first (mean s) within room b hb

    way : (w : List ℕ) → length w ≡ 512 → Outcome (mean s) (place t first b) w (mean (write s (place t first b) w))
    way w e = outcome (mean s) (place t first b) w (mean (write s (place t first b) w)) e there (law.writes s (place t first b) w ok)

    stopped : ((mean s).gone ≡ false → (mean s).writable (place t first b) ≡ false → left t ≡ 0)
        → Ended mean first b v (remap_at t first (mean s)) (mean s).count t.spares (layer (write s (place t first b) v) t)
    stopped last = record {
      outcome = stop_outcome t first (mean s) (mean (write s (place t first b) v)) b v within room hb last (way v sized);
      count = outcome_count (mean s) (place t first b) v (mean (write s (place t first b) v)) (way v sized);
      spares = refl;
    }

    module _ (more : used t < t.spares) (w : List ℕ) (lw : length w ≡ 512) (refused : refused_with 3 (write_refusal (mean s) (place t first b) (length v)) ≡ true) where
      pub spoils : Spoiled (mean s) (place t first b) (mean (write s (place t first b) w))
      spoils =
          let q = refused_shut (mean s) (place t first b) (length v) sized there refused in
          spoiled_of (mean s) (place t first b) w (mean (write s (place t first b) w)) q.0 q.1 (way w lw)

      passes : Passed (remap_at t first (mean s)) b (remap_at (moved_on t b) first (mean (write s (place t first b) w)))
      passes =
          let q = refused_shut (mean s) (place t first b) (length v) sized there refused in
          passed_on t first (mean s) (mean (write s (place t first b) w)) b more room hb q.0 q.1 spoils

  pub ends : (n : ℕ) (s : S) (t : Table) → sound s → used t + n ≡ t.spares → first + t.spares ≤ (mean s).count
      → Ended mean first b v (remap_at t first (mean s)) (mean s).count t.spares (tries mean write first b v n s t)
  ends zero s t ok few room = stopped s t ok (omega arith) room (λ e w. omega arith)
  ends (suc n) s t ok few room =
      let p = place t first b in
      let within : used t ≤ t.spares = omega arith in
      let more : used t < t.spares = omega arith in
      let lw : length (clipped v) ≡ 512 = length_clipped v ∙ sized in
      cond_both (refused_with 3 (write_refusal (mean s) p (length v)))
      (tries mean write first b v n (write s p (clipped v)) (moved_on t b)) (layer (write s p v) t)
      (Ended mean first b v (remap_at t first (mean s)) (mean s).count t.spares)
      (λ yes3.
      let next = write s p (clipped v) in
      let same : (mean next).count ≡ (mean s).count = (spoils s t ok within room more (clipped v) lw yes3).level.count in
      let ih = ends n next (moved_on t b) (law.wrote_sound s p (clipped v) ok (bytes_clipped v)) (omega arith) (omega arith) in
      record {
        outcome = passed_outcome (remap_at t first (mean s)) (remap_at (moved_on t b) first (mean next)) _ b v (passes s t ok within room more (clipped v) lw yes3) ih.outcome;
        count = ih.count ∙ same;
        spares = ih.spares;
      })
      (λ not3. stopped s t ok within room
      (λ e w. absurd (false≢true (sym not3 ∙ shut_refused (mean s) p (length v) sized (there s t ok within room) e w))))

  -- a layer on which the tries end is sound
  pub tries_sound : Bytes (length v) v → (n : ℕ) (s : S) (t : Table) → sound s → used t + n ≡ t.spares → LayerSound sound (tries mean write first b v n s t)
  tries_sound low zero s t ok few = record { below = law.wrote_sound s (place t first b) v ok low; within = omega arith }
  tries_sound low (suc n) s t ok few =
      cond_both (refused_with 3 (write_refusal (mean s) (place t first b) (length v)))
      (tries mean write first b v n (write s (place t first b) (clipped v)) (moved_on t b)) (layer (write s (place t first b) v) t)
      (LayerSound sound)
      (λ e. tries_sound low n (write s (place t first b) (clipped v)) (moved_on t b) (law.wrote_sound s (place t first b) (clipped v) ok (bytes_clipped v)) (omega arith))
      (λ e. record { below = law.wrote_sound s (place t first b) v ok low; within = omega arith })

  -- ---- a loop over the tries
  module _ (s : S) (t : Table) (x : S) (u : Table) (ok : sound x) (within : used u ≤ u.spares) (h : Trying mean write first b v s t x u) where
    -- a try that is not refused with 3 gives the layer's answer
    pub trying_all : refused_with 3 (write_refusal (mean x) (place u first b) (length v)) ≡ false
        → (write_refusal (mean x) (place u first b) (length v) ≡ put_refusal (remap_at t first (mean s)) b)
        × (layer (write x (place u first b) v) u ≡ tries mean write first b v (left t) s t)
    trying_all e =
        let good = good_write (mean x) (place u first b) (there x u ok within h.room) (length v) sized in (
          good
              ∙ answer_stays (mean x).gone ((mean x).writable (place u first b)) (any_from (mean x).writable (first + used u) (left u))
              ((mean x).gone_origin (place u first b)) ((mean x).unwritable_origin (place u first b)) ((remap_at u first (mean x)).unwritable_origin b)
              (ap (refused_with 3) (sym good) ∙ e)
              ∙ h.answer,
          tries_end mean write first b v (left u) x u e ∙ h.same,
        )

    -- one that is, with no spare left, is answered by the layer's own fault
    pub trying_spent : refused_with 3 (write_refusal (mean x) (place u first b) (length v)) ≡ true → left u ≡ 0
        → (Some (own (remap_at u first (mean (write x (place u first b) v))) Unwritable b) ≡ put_refusal (remap_at t first (mean s)) b)
        × (layer (write x (place u first b) v) u ≡ tries mean write first b v (left t) s t)
    trying_spent e none =
        let q = refused_shut (mean x) (place u first b) (length v) sized (there x u ok within h.room) e in
        let n = mean (write x (place u first b) v) in
        let high : n.height ≡ (mean x).height =
        (spoiled_of (mean x) (place u first b) v n q.0 q.1 (way x u ok within h.room v sized)).level.height in (
          ap (λ k. Some (raised Unwritable (record { height = above k; block = b }))) high
              ∙ sym
              (cond-false _ _ _ q.0
              ∙ cond-false _ _ _ (or_from _ _ q.1 (ap (any_from (mean x).writable (first + used u)) none)))
              ∙ h.answer,
          ap (λ k. tries mean write first b v k x u) (sym none) ∙ h.same,
        )

    -- with a spare left, that is tried next
    pub trying_more : refused_with 3 (write_refusal (mean x) (place u first b) (length v)) ≡ true → used u < u.spares
        → ((i : ℕ) → slice_index v i < 256) → Trying mean write first b v s t (write x (place u first b) v) (moved_on u b)
    trying_more e more low = record {
      same =
          ap (λ w. tries mean write first b v (left (moved_on u b)) (write x (place u first b) w) (moved_on u b)) (sym (clipped_same v low))
          ∙ tries_next mean write first b v (left u) (left (moved_on u b)) x u (omega arith) e
          ∙ h.same;
      answer =
          passed_refusal (remap_at u first (mean x)) (remap_at (moved_on u b) first (mean (write x (place u first b) v))) b
          (passes x u ok within h.room more v sized e)
          ∙ h.answer;
      room =
          let same : (mean (write x (place u first b) v)).count ≡ (mean x).count =
          (spoils x u ok within h.room more v sized e).level.count in
          omega (arith, h.room);
    }
