-- The laws of a member, for a remap layer over a member that keeps them.
use Rattle.std.specs.Prelude.{◌≡◌, ℕ, ◌-◌, ◌<◌, ◌≤◌, true, false, cond, ltb, List, length, Some, None, ◌==◌, ◌≢◌, nat_lt, refl}
use Rattle.std.proofs.Common.{sym, ap, subst, ◌∙◌, ⊎_elim, arith}
use Rattle.std.proofs.lemmas.Bool.{cond_both, cond-true, cond-false, ltb-true, eqb-true, le-ltb, cases_Bool}
use Rattle.member.specs.Faults.{above}
use Rattle.member.specs.Meaning.{Meaning, Sound, checked}
use Rattle.member.specs.Changes.{Written, Ticked, Renewed, Lawful}
use Rattle.member.specs.Outcomes.{Outcome, checked_written}
use Rattle.remap.specs.Places.{Table, place, used, left, unmoved}
use Rattle.remap.specs.Remapped.{remap_at, remapped, own_count, Layer, layer, LayerSound, layer_meaning, layer_seen, tries, layer_wrote, layer_ticked, layer_renewed}
use Rattle.remap.specs.Tries.{block_in, inside, ends, tries_sound}

none≢block : (v : List ℕ) → None ≢ Some v
none≢block v e = let z : ◌≡◌ {A = ℕ} 0 1 = cc in omega arith

pub remapped_sound : (t : Table) (m : Meaning) → Sound m → Sound (remapped t m)
remapped_sound t m h = record {
  few = omega (arith, h.few);
  low = omega arith;
  sized = λ b v e.
      ⊎_elim
      (λ (l : ltb b (own_count t m) ≡ true). h.sized (place t (own_count t m) b) v (sym (cond-true _ _ _ l) ∙ e))
      (λ (l : ltb b (own_count t m) ≡ false). absurd (none≢block v (sym (cond-false _ _ _ l) ∙ e)))
      (cases_Bool (nat_lt b (own_count t m)));
  beyond = λ b l. cond-false _ _ _ (le-ltb b (own_count t m) l);
}

pub remapped_ticked : (t : Table) (m n : Meaning) → used t ≤ t.spares → Ticked m n → Ticked (remapped t m) (remapped t n)
remapped_ticked t m n within h = record {
  level = record { count = ap (λ c. c - t.spares) h.level.count; height = ap above h.level.height };
  gone = h.gone;
  blocks = λ k v lt e.
      let first = own_count t m in
      let f : (remap_at t first n).block k ≡ Some v = subst (λ c. (remap_at t (c - t.spares) n).block k ≡ Some v) h.level.count e in
      block_in t first m k lt
      ∙ h.blocks (place t first k) v (inside t first m within (omega arith) k lt) (sym (block_in t first n k lt) ∙ f);
}

remapped_renewed : (t u : Table) (m n : Meaning) → u.spares ≡ t.spares → Renewed m n → Renewed (remapped t m) (remapped u n)
remapped_renewed t u m n same h = record {
  level = record { count = omega (arith, h.level.count, same); height = ap above h.level.height };
  present = h.present;
}

module _ {S : Type 0} (sound : S → Type 0) (mean : S → Meaning) (see : S → ℕ → ℕ → S) (write : S → ℕ → List ℕ → S) (tick renew : S → S)
    (law : Lawful sound mean see write tick renew) where
  -- what holds of a layer that a call reaches, and of the layer as it was, holds after the call
  checked_holds : (P : Layer S → Type 0) (m : Meaning) (b n : ℕ) (new old : Layer S) → (n ≡ 512 → b < m.count → P new) → P old
      → P (checked m b n new old)
  checked_holds P m b n new old h k =
      cond_both (n == 512) (cond (nat_lt b m.count) new old) old P
      (λ e. cond_both (nat_lt b m.count) new old P (λ l. h (eqb-true n 512 e) (ltb-true b m.count l)) (λ l. k)) (λ e. k)

  pub layer_writes : (x : Layer S) (b : ℕ) (v : List ℕ) → LayerSound sound x
      → Written (layer_meaning mean x) b v (layer_meaning mean (layer_wrote mean write x b v))
  layer_writes x b v ok =
      let t = x.table in
      let m = mean x.below in
      let first = own_count t m in
      let y = tries mean write first b v (left t) x.below t in
      checked_written (layer_meaning mean) x y b v
      (λ sized there.
      let e = ends sound mean see write tick renew law first b v sized there (left t) x.below t ok.below (omega (arith, ok.within)) (omega arith) in
      let same : first ≡ own_count y.table (mean y.below) = omega (arith, e.count, e.spares) in
      subst (λ k. Outcome (layer_meaning mean x) b v (remap_at y.table k (mean y.below))) same e.outcome)

  pub layer_lawful : Lawful (LayerSound sound) (layer_meaning mean) (layer_seen mean see) (layer_wrote mean write) (layer_ticked tick) (layer_renewed renew)
  layer_lawful = record {
    means = λ x ok. remapped_sound x.table (mean x.below) (law.means x.below ok.below);
    sees = λ x b n ok.
        checked_holds (λ y. layer_meaning mean y ≡ layer_meaning mean x) (layer_meaning mean x) b n
        (layer (see x.below (place x.table (layer_meaning mean x).count b) n) x.table) x
        (λ e l. ap (remapped x.table) (law.sees x.below (place x.table (layer_meaning mean x).count b) n ok.below)) refl;
    writes = layer_writes;
    ticks = λ x ok. remapped_ticked x.table (mean x.below) (mean (tick x.below)) ok.within (law.ticks x.below ok.below);
    renews = λ x ok.
        remapped_renewed x.table (unmoved x.table.spares) (mean x.below) (mean (renew x.below)) refl (law.renews x.below ok.below);
    seen_sound = λ x b n ok.
        checked_holds (LayerSound sound) (layer_meaning mean x) b n
        (layer (see x.below (place x.table (layer_meaning mean x).count b) n) x.table) x
        (λ e l. record { below = law.seen_sound x.below (place x.table (layer_meaning mean x).count b) n ok.below; within = ok.within }) ok;
    wrote_sound = λ x b v ok low.
        checked_holds (LayerSound sound) (layer_meaning mean x) b (length v)
        (tries mean write (layer_meaning mean x).count b v (left x.table) x.below x.table) x
        (λ e l. tries_sound sound mean see write tick renew law (layer_meaning mean x).count b v e l low (left x.table) x.below x.table ok.below (omega (arith, ok.within)))
        ok;
    ticked_sound = λ x ok. record { below = law.ticked_sound x.below ok.below; within = ok.within };
    renewed_sound = λ x ok. record { below = law.renewed_sound x.below ok.below; within = omega arith };
  }
