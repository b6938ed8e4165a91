-- A fault layer keeps the laws of a member over whatever keeps them below.
use Rattle.std.proofs.Common.{◌≡◌, ℕ, ◌<◌, Bool, true, false, cond, ◌||◌, eqb, ltb, List, length, is_some, Some, None, Option, sym, refl, ap, ◌∙◌, subst, ⊎_elim, arith}
use Rattle.std.proofs.lemmas.Bool.{cond-true, cond-false, cond_both, cases_Bool, cases_eq, or_cases, or_left, or_right, or_from, false≢true, ltb-true, lt-ltb, eq-eqb, eqb-true, eqb-false}
use Rattle.code.specs.Blocks.{Block, block_size}
use Rattle.member.specs.declared.Cause.TheVariants.{Gone, Unwritable, NoBlock, BadBuffer}
use Rattle.member.specs.Faults.{Origin, Refusal, raised, above}
use Rattle.member.specs.Meaning.{Meaning, Sound, own, put_refusal, write_refusal}
use Rattle.member.specs.Changes.{Kept, Taken, Spoiled, Written, Ticked, Renewed, Lawful}
use Rattle.faultplan.specs.declared.entry.Event.TheVariants.{Refused, Accepted, Fresh}
use Rattle.faultplan.specs.declared.entry.Check.{Check}
use Rattle.faultplan.specs.declared.entry.Check.TheVariants.{Present, Readable, Writable}
use Rattle.faultplan.specs.declared.plan.Plan.{Plan}
use Rattle.faultplan.specs.Plans.{failed, told, advanced}
use Rattle.faultplan.specs.Layers.{
  own_origin,
  layered,
  withheld,
  or_else,
  Planned,
  planned,
  layer_meaning,
  layer_seen,
  settled,
  layer_wrote,
  layer_ticked,
  layer_renewed,
}
use Rattle.faultplan.proofs.Events.{
  refused_gone,
  refused_writes,
  refused_reads,
  refused_here,
  accepted_gone,
  accepted_writes,
  accepted_reads,
  accepted_here,
  fresh_clears,
  advanced_gone,
  advanced_reads,
}

none≢some : {A : Type 0} (f : A) → None ≡ Some f → ⊥
none≢some f e = let z : ◌≡◌ {A = ℕ} 0 1 = cc in omega arith

-- ---- the allowed change of a write, from the refusal that it meets
module _ (m : Meaning) (b : ℕ) (v : List ℕ) (n : Meaning) where
  written_none : write_refusal m b (length v) ≡ None → Taken m b v n → Written m b v n
  written_none e t = record {
    accepted = λ _. t;
    unwritable = λ f q _. absurd (none≢some f (sym e ∙ q));
    refused = λ f q _. absurd (none≢some f (sym e ∙ q));
  }

  written_3 : (f : Refusal) → write_refusal m b (length v) ≡ Some f → f.cause ≡ 3 → Spoiled m b n → Written m b v n
  written_3 f e three t = record {
    accepted = λ q. absurd (none≢some f (sym q ∙ e));
    unwritable = λ _ _ _. t;
    refused = λ g q other. let same : f ≡ g = cc in absurd (other (ap (λ r. r.cause) (sym same) ∙ three));
  }

  written_other : (f : Refusal) → write_refusal m b (length v) ≡ Some f → (f.cause ≡ 3 → ⊥) → n ≡ m → Written m b v n
  written_other f e other t = record {
    accepted = λ q. absurd (none≢some f (sym q ∙ e));
    unwritable = λ g q three. let same : f ≡ g = cc in absurd (other (ap (λ r. r.cause) same ∙ three));
    refused = λ _ _ _. t;
  }

-- ---- what a layer answers: what it withholds, or else what is answered below
module _ (p : Plan) (m : Meaning) (b : ℕ) where
  put_answer : Bool → Bool → Bool → Option Refusal
  put_answer x y g =
      cond (x || g) (Some (raised Gone (cond x (own_origin m b) (m.gone_origin b))))
      (cond (cond y false (m.writable b)) None (Some (raised Unwritable (cond y (own_origin m b) (m.unwritable_origin b)))))

  put_else : Bool → Bool → Bool → Option Refusal
  put_else x y g =
      or_else
      (cond x (Some (raised Gone (own_origin m b)))
      (cond y (Some (cond g (raised Gone (m.gone_origin b)) (raised Unwritable (own_origin m b)))) None))
      (cond g (Some (raised Gone (m.gone_origin b)))
      (cond (m.writable b) None (Some (raised Unwritable (m.unwritable_origin b)))))

  put_cases : (x y g : Bool) → put_answer x y g ≡ put_else x y g
  unfolding put_answer put_else
  put_cases true y g = refl
  put_cases false true true = refl
  put_cases false true false = refl
  put_cases false false true = refl
  put_cases false false false = refl

  layered_put : put_refusal (layered p m) b ≡ or_else (withheld p m (Writable b) b) (put_refusal m b)
  unfolding put_answer put_else
  layered_put = put_cases (failed Present p) (failed (Writable b) p) m.gone

-- ---- each call, in the words of Changes
module _ (p : Plan) (m : Meaning) where
  layered_sound : Sound m → Sound (layered p m)
  layered_sound h = record {
    few = h.few;
    low = omega (arith, h.low);
    sized = λ b v.
        cond_both (failed (Readable b) p) None (m.block b) (λ o. o ≡ Some v → Block v) (λ _ e. absurd (none≢some v e)) (λ _ e. h.sized b v e);
    beyond = λ b l. cond_both (failed (Readable b) p) None (m.block b) (λ o. o ≡ None) (λ _. refl) (λ _. h.beyond b l);
  }

  -- the table itself refuses a write
  refused_layer : (b : ℕ) → failed (Writable b) p ≡ true → Spoiled (layered p m) b (layered (told (Refused b) p) m)
  refused_layer b y = record {
    level = record { count = refl; height = refl };
    gone = ap (λ a. a || m.gone) (refused_gone p b);
    here = cond-true _ _ _ (refused_here p b y);
    again = ap (λ a. cond a (own_origin m b) (m.unwritable_origin b)) (refused_writes p b b);
    others = λ k lt ne. record {
      block = ap (λ a. cond a None (m.block k)) (refused_reads p b k ne);
      gone_origin = ap (λ a. cond a (own_origin m k) (m.gone_origin k)) (refused_gone p b);
      unreadable_origin = ap (λ a. cond a (own_origin m k) (m.unreadable_origin k)) (refused_reads p b k ne);
      unwritable_origin = ap (λ a. cond a (own_origin m k) (m.unwritable_origin k)) (refused_writes p b k);
    };
    writable = λ k lt. ap (λ a. cond a false (m.writable k)) (refused_writes p b k);
  }

module _ (p : Plan) (m n : Meaning) where
  -- an own fault below the same height has the same origin
  same_own : n.height ≡ m.height → (k : ℕ) → own_origin n k ≡ own_origin m k
  same_own e k = ap (λ h. record { height = above h; block = k }) e

  same_origin : (x y : Bool) (o q s t : Origin) → x ≡ y → o ≡ q → s ≡ t → cond x o s ≡ cond y q t
  same_origin x y o q s t a c d = ap (λ z. cond z o s) a ∙ (ap (λ z. cond y z s) c ∙ ap (cond y q) d)

  -- block k, where table and height are as before
  kept_layer : (q : Plan) (k : ℕ) → n.height ≡ m.height → failed Present q ≡ failed Present p → failed (Readable k) q ≡ failed (Readable k) p
      → failed (Writable k) q ≡ failed (Writable k) p → Kept m n k → Kept (layered p m) (layered q n) k
  kept_layer q k e x y z h = record {
    block = ap (λ a. cond a None (n.block k)) y ∙ ap (cond (failed (Readable k) p) None) h.block;
    gone_origin = same_origin _ _ _ _ _ _ x (same_own e k) h.gone_origin;
    unreadable_origin = same_origin _ _ _ _ _ _ y (same_own e k) h.unreadable_origin;
    unwritable_origin = same_origin _ _ _ _ _ _ z (same_own e k) h.unwritable_origin;
  }

  -- a write to block b is accepted below
  taken_layer : (b : ℕ) (v : List ℕ) → failed (Writable b) p ≡ false → Taken m b v n → Taken (layered p m) b v (layered (told (Accepted b) p) n)
  taken_layer b v y h = record {
    level = record { count = h.level.count; height = ap above h.level.height };
    gone = ap (λ a. a || n.gone) (accepted_gone p b) ∙ ap (λ g. failed Present p || g) h.gone;
    here = cond-false _ _ _ (accepted_here p b y) ∙ h.here;
    others = λ k lt ne.
        kept_layer (told (Accepted b) p) k h.level.height (accepted_gone p b) (accepted_reads p b k ne) (accepted_writes p b k)
        (h.others k lt ne);
    costs = λ k lt.
        subst (λ a. cond a false (n.writable k) ≡ true → cond (failed (Writable k) p) false (m.writable k) ≡ true)
        (sym (accepted_writes p b k))
        (elim (failed (Writable k) p) as (λ a. cond a false (n.writable k) ≡ true → cond a false (m.writable k) ≡ true) [
          | true ↦ λ t. t
          | false ↦ h.costs k lt
        ]);
  }

  -- a write to block b is refused below with 3
  spoiled_layer : (b : ℕ) → Spoiled m b n → Spoiled (layered p m) b (layered p n)
  spoiled_layer b h = record {
    level = record { count = h.level.count; height = ap above h.level.height };
    gone = ap (λ g. failed Present p || g) h.gone;
    here = cond_both (failed (Readable b) p) None (n.block b) (λ o. o ≡ None) (λ _. refl) (λ _. h.here);
    again = same_origin _ _ _ _ _ _ refl (same_own h.level.height b) h.again;
    others = λ k lt ne. kept_layer p k h.level.height refl refl refl (h.others k lt ne);
    writable = λ k lt. ap (cond (failed (Writable k) p) false) (h.writable k lt);
  }

  ticked_layer : Ticked m n → Ticked (layered p m) (layered (advanced p) n)
  ticked_layer h = record {
    level = record { count = h.level.count; height = ap above h.level.height };
    gone = λ e.
        ⊎_elim (λ a. or_left (failed Present (advanced p)) _ (advanced_gone p a)) (λ a. or_right (failed Present (advanced p)) _ (h.gone a))
        (or_cases (failed Present p) m.gone e);
    blocks = λ k v lt.
        cond_both (failed (Readable k) (advanced p)) None (n.block k) (λ o. o ≡ Some v → cond (failed (Readable k) p) None (m.block k) ≡ Some v)
        (λ _ e. absurd (none≢some v e))
        (λ off e.
        cond_both (failed (Readable k) p) None (m.block k) (λ o. o ≡ Some v)
        (λ on. absurd (false≢true (sym off ∙ advanced_reads p k on))) (λ _. h.blocks k v lt e));
  }

  renewed_layer : Renewed m n → Renewed (layered p m) (layered (told Fresh p) n)
  renewed_layer h = record {
    level = record { count = h.level.count; height = ap above h.level.height };
    present = or_from _ _ (fresh_clears Present p) h.present;
  }

pub same_planned : {S : Type 0} {s t : S} {p q : Plan} → s ≡ t → p ≡ q → planned s p ≡ planned t q
same_planned e f = λ i. planned (e i) (f i)

-- ---- what is withheld
open_cases : (x y : Bool) (f g : Refusal) → cond x (Some f) (cond y (Some g) None) ≡ None → (x ≡ false) × (y ≡ false)
open_cases true y f g e = absurd (none≢some f (sym e))
open_cases false true f g e = absurd (none≢some g (sym e))
open_cases false false f g e = (refl, refl)

shut_cases : (x y : Bool) (f g r : Refusal) → f.cause ≡ 1 → cond x (Some f) (cond y (Some g) None) ≡ Some r → r.cause ≡ 3 → y ≡ true
shut_cases true y f g r one e three = let same : f ≡ r = cc in absurd (omega (arith, ap (λ z. z.cause) same))
shut_cases false true f g r one e three = refl
shut_cases false false f g r one e three = absurd (none≢some r e)

module _ (p : Plan) (m : Meaning) (c : Check) (b : ℕ) where
  -- nothing is withheld: no own fault
  withheld_none : withheld p m c b ≡ None → (failed Present p ≡ false) × (failed c p ≡ false)
  withheld_none e = open_cases (failed Present p) (failed c p) _ _ e

  -- a refusal with 3 is due to the check
  withheld_3 : (f : Refusal) → withheld p m c b ≡ Some f → f.cause ≡ 3 → failed c p ≡ true
  withheld_3 f e three = shut_cases (failed Present p) (failed c p) _ _ f refl e three

-- ---- a write
module _ {S : Type 0} (mean : S → Meaning) (write : S → ℕ → List ℕ → S) (x : Planned S) (b : ℕ) (v : List ℕ) where
  module _ (whole : length v ≡ block_size) (there : b < (mean x.below).count) where
    pub wrote_settled : (o : Option Refusal) → withheld x.plan (mean x.below) (Writable b) b ≡ o
        → layer_wrote mean write x b v ≡ settled mean write x b v o
    wrote_settled o e =
        cond-true _ _ _ (eq-eqb (length v) block_size whole) ∙ (cond-true _ _ _ (lt-ltb b _ there) ∙ ap (settled mean write x b v) e)

    -- what is refused below, of a block that there is
    write_put : (m : Meaning) → b < m.count → write_refusal m b (length v) ≡ put_refusal m b
    write_put m l = cond-true _ _ _ (eq-eqb (length v) block_size whole) ∙ cond-true _ _ _ (lt-ltb b _ l)

    pub layered_write : (o : Option Refusal) → withheld x.plan (mean x.below) (Writable b) b ≡ o
        → write_refusal (layer_meaning mean x) b (length v) ≡ or_else o (write_refusal (mean x.below) b (length v))
    layered_write o e =
        write_put (layer_meaning mean x) there
        ∙ (layered_put x.plan (mean x.below) b ∙ (ap (λ z. or_else z (put_refusal (mean x.below) b)) e
        ∙ ap (or_else o) (sym (write_put (mean x.below) there))))

    passed_writes : Written (mean x.below) b v (mean (write x.below b v)) → withheld x.plan (mean x.below) (Writable b) b ≡ None
        → (r : Option Refusal) → write_refusal (mean x.below) b (length v) ≡ r
        → Written (layer_meaning mean x) b v (layered (cond (is_some r) x.plan (told (Accepted b) x.plan)) (mean (write x.below b v)))
    passed_writes w e None q =
        written_none (layer_meaning mean x) b v _ (layered_write None e ∙ q)
        (taken_layer x.plan (mean x.below) (mean (write x.below b v)) b v
        (withheld_none x.plan (mean x.below) (Writable b) b e).1 (w.accepted q))
    passed_writes w e (Some f) q =
        ⊎_elim
        (λ (three : f.cause ≡ 3). written_3 (layer_meaning mean x) b v _ f (layered_write None e ∙ q) three
        (spoiled_layer x.plan (mean x.below) (mean (write x.below b v)) b (w.unwritable f q three)))
        (λ (other : f.cause ≡ 3 → ⊥). written_other (layer_meaning mean x) b v _ f (layered_write None e ∙ q) other
        (ap (layered x.plan) (w.refused f q other)))
        (cases_eq f.cause 3)

    settled_writes : Written (mean x.below) b v (mean (write x.below b v)) → (o : Option Refusal)
        → withheld x.plan (mean x.below) (Writable b) b ≡ o → Written (layer_meaning mean x) b v (layer_meaning mean (settled mean write x b v o))
    settled_writes w None e = passed_writes w e (write_refusal (mean x.below) b (length v)) refl
    settled_writes w (Some f) e =
        cond_both (eqb f.cause 3) (told (Refused b) x.plan) x.plan (λ q. Written (layer_meaning mean x) b v (layered q (mean x.below)))
        (λ t. let three = eqb-true f.cause 3 t in
        written_3 (layer_meaning mean x) b v _ f (layered_write (Some f) e) three
        (refused_layer x.plan (mean x.below) b (withheld_3 x.plan (mean x.below) (Writable b) b f e three)))
        (λ t. written_other (layer_meaning mean x) b v _ f (layered_write (Some f) e) (eqb-false f.cause 3 t) refl)

  pub layer_writes : Written (mean x.below) b v (mean (write x.below b v))
      → Written (layer_meaning mean x) b v (layer_meaning mean (layer_wrote mean write x b v))
  layer_writes w =
      let L = layer_meaning mean x in
      let after : Planned S → Type 0 = λ y. Written L b v (layer_meaning mean y) in
      ⊎_elim
      (λ (whole : eqb (length v) block_size ≡ true).
      ⊎_elim
      (λ (there : ltb b (mean x.below).count ≡ true).
      let lv = eqb-true (length v) block_size whole in
      let lt = ltb-true b (mean x.below).count there in
      subst after (sym (wrote_settled lv lt _ refl)) (settled_writes lv lt w _ refl))
      (λ (off : ltb b (mean x.below).count ≡ false).
      subst after (sym (cond-true _ _ _ whole ∙ cond-false _ _ _ off))
      (written_other L b v L (own L NoBlock b) (cond-true _ _ _ whole ∙ cond-false _ _ _ off) (λ t. omega (arith, t)) refl))
      (cases_Bool (ltb b (mean x.below).count)))
      (λ (short : eqb (length v) block_size ≡ false).
      subst after (sym (cond-false _ _ _ short)) (written_other L b v L (own L BadBuffer b) (cond-false _ _ _ short) (λ t. omega (arith, t)) refl))
      (cases_Bool (eqb (length v) block_size))

-- ---- the laws
module _ {S : Type 0} (sound : S → Type 0) (mean : S → Meaning) (see : S → ℕ → ℕ → S) (write : S → ℕ → List ℕ → S) (tick renew : S → S)
    (law : Lawful sound mean see write tick renew) where
  layer_sees : (x : Planned S) (b n : ℕ) (P : Planned S → Type 0) → P x → P (planned (see x.below b n) x.plan) → P (layer_seen mean see x b n)
  layer_sees x b n P old new =
      cond_both (eqb n block_size) _ x P
      (λ _. cond_both (ltb b (mean x.below).count) _ x P
      (λ _. cond_both (is_some (withheld x.plan (mean x.below) (Readable b) b)) x _ P (λ _. old) (λ _. new)) (λ _. old))
      (λ _. old)

  settled_below : (x : Planned S) (b : ℕ) (v : List ℕ) (o : Option Refusal) → sound x.below → sound (write x.below b v)
      → sound (settled mean write x b v o).below
  settled_below x b v None old new = new
  settled_below x b v (Some f) old new = old

  pub layer_lawful : Lawful (λ x. sound x.below) (layer_meaning mean) (layer_seen mean see) (layer_wrote mean write) (layer_ticked tick)
      (layer_renewed renew)
  layer_lawful = record {
    means = λ x h. layered_sound x.plan (mean x.below) (law.means x.below h);
    sees = λ x b n h. layer_sees x b n (λ y. layer_meaning mean y ≡ layer_meaning mean x) refl (ap (layered x.plan) (law.sees x.below b n h));
    writes = λ x b v h. layer_writes mean write x b v (law.writes x.below b v h);
    ticks = λ x h. ticked_layer x.plan (mean x.below) (mean (tick x.below)) (law.ticks x.below h);
    renews = λ x h. renewed_layer x.plan (mean x.below) (mean (renew x.below)) (law.renews x.below h);
    seen_sound = λ x b n h. layer_sees x b n (λ y. sound y.below) h (law.seen_sound x.below b n h);
    wrote_sound = λ x b v h k.
        cond_both (eqb (length v) block_size) _ x (λ y. sound y.below)
        (λ _. cond_both (ltb b (mean x.below).count) _ x (λ y. sound y.below)
        (λ _. settled_below x b v (withheld x.plan (mean x.below) (Writable b) b) h (law.wrote_sound x.below b v h k)) (λ _. h))
        (λ _. h);
    ticked_sound = λ x h. law.ticked_sound x.below h;
    renewed_sound = λ x h. law.renewed_sound x.below h;
  }
