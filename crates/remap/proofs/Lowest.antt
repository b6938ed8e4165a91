-- That a moved block goes to the lowest spare that takes it.
use Rattle.std.proofs.Common.{◌≡◌, ℕ, zero, suc, ◌+◌, ◌<◌, ◌≤◌, true, false, List, length, sym, refl, ap, ◌∙◌, subst, ⊎_elim, arith}
use Rattle.std.proofs.lemmas.Bool.{cases_eq, cases_Bool, true≢false}
use Rattle.member.specs.Faults.{refused_with}
use Rattle.member.specs.Meaning.{Meaning, write_refusal}
use Rattle.member.specs.Changes.{Spoiled, Lawful}
use Rattle.member.specs.Outcomes.{good_checked}
use Rattle.remap.specs.Places.{Table, place, used, left, moved_on}
use Rattle.remap.specs.Remapped.{own_count, layer_meaning, clipped, tries}
use Rattle.remap.specs.Rules.{PlacesApart, MovedTo, MovesToLowest}
use Rattle.remap.specs.Tables.{place_below, place_apart, moved_here}
use Rattle.remap.specs.Tries.{length_clipped, bytes_clipped, inside, refused_shut, shut_refused, spoils, tries_end, tries_next}

pub places_apart : PlacesApart
places_apart t first = record {
  apart = λ b k hb hk e. ⊎_elim (λ (q : k ≡ b). q) (λ (q : k ≡ b → ⊥). absurd (place_apart t first b k hb hk q e)) (cases_eq k b);
  within = place_below t first;
}

-- where block b stands at spare i, the last used
record At (first b i : ℕ) (t : Table) : Type 0 where
  stands : place t first b ≡ first + i
  last : used t ≡ i + 1

module _ {S : Type 0} (sound : S → Type 0) (mean : S → Meaning) (see : S → ℕ → ℕ → S) (write : S → ℕ → List ℕ → S) (tick renew : S → S)
    (law : Lawful sound mean see write tick renew) (first b : ℕ) (v : List ℕ) (sized : length v ≡ 512) (hb : b < first) (i : ℕ) where
  -- a try where the write is taken is the last
  taken_at : (n : ℕ) (s : S) (t : Table) → used t ≤ t.spares → first + t.spares ≤ (mean s).count → (mean s).writable (place t first b) ≡ true
      → (tries mean write first b v n s t).table ≡ t
  taken_at n s t within room free =
      let p = place t first b in
      let other : refused_with 3 (write_refusal (mean s) p (length v)) ≡ false =
      ⊎_elim
      (λ (e : refused_with 3 (write_refusal (mean s) p (length v)) ≡ true).
      absurd (true≢false (sym free ∙ (refused_shut (mean s) p (length v) sized (inside t first (mean s) within room b hb) e).1)))
      (λ (e : refused_with 3 (write_refusal (mean s) p (length v)) ≡ false). e)
      (cases_Bool (refused_with 3 (write_refusal (mean s) p (length v)))) in
      ap (λ y. y.table) (sym (tries_end mean write first b v n s t other))

  goes : (n : ℕ) (s : S) (t : Table) → sound s → used t + n ≡ t.spares → first + t.spares ≤ (mean s).count → (mean s).gone ≡ false
      → (mean s).writable (place t first b) ≡ false → used t ≤ i → i < t.spares
      → ((j : ℕ) → used t ≤ j → j < i → (mean s).writable (first + j) ≡ false) → (mean s).writable (first + i) ≡ true
      → At first b i (tries mean write first b v n s t).table
  goes zero s t ok few room present shut low high passed takes = absurd (omega arith)
  goes (suc n) s t ok few room present shut low high passed takes =
      let p = place t first b in
      let within : used t ≤ t.spares = omega arith in
      let more : used t < t.spares = omega arith in
      let lw : length (clipped v) ≡ 512 = length_clipped v ∙ sized in
      let three : refused_with 3 (write_refusal (mean s) p (length v)) ≡ true =
      shut_refused (mean s) p (length v) sized (inside t first (mean s) within room b hb) present shut in
      let next = write s p (clipped v) in
      let h : Spoiled (mean s) p (mean next) =
      spoils sound mean see write tick renew law first b v sized hb s t ok within room more (clipped v) lw three in
      let roomy : first + t.spares ≤ (mean next).count = omega (arith, h.level.count) in
      let on : tries mean write first b v (suc n) s t ≡ tries mean write first b v n next (moved_on t b) =
      sym (tries_next mean write first b v (suc n) n s t refl three) in
      let here : place (moved_on t b) first b ≡ first + used t = moved_here t first b in
      subst (λ y. At first b i y.table) (sym on)
      (⊎_elim
      (λ (q : used t ≡ i).
      let free : (mean next).writable (place (moved_on t b) first b) ≡ true =
      ap (mean next).writable here ∙ h.writable (first + used t) (omega arith) ∙ ap (λ k. (mean s).writable (first + k)) q ∙ takes in
      subst (At first b i) (sym (taken_at n next (moved_on t b) (omega arith) roomy free))
      (record { stands = here ∙ ap (λ k. first + k) q; last = omega arith }))
      (λ (q : used t ≡ i → ⊥).
      let less : used t < i = omega arith in
      goes n next (moved_on t b) (law.wrote_sound s p (clipped v) ok (bytes_clipped v)) (omega arith) roomy (h.gone ∙ present)
      (ap (mean next).writable here ∙ h.writable (first + used t) (omega arith) ∙ passed (used t) (omega arith) less)
      (omega arith) high
      (λ j l k. h.writable (first + j) (omega arith) ∙ passed j (omega arith) k)
      (h.writable (first + i) (omega arith) ∙ takes))
      (cases_eq (used t) i))

module _ {S : Type 0} (sound : S → Type 0) (mean : S → Meaning) (see : S → ℕ → ℕ → S) (write : S → ℕ → List ℕ → S) (tick renew : S → S)
    (law : Lawful sound mean see write tick renew) where
  pub moves_to_lowest : MovesToLowest mean sound write
  moves_to_lowest x b i v ok sized there low =
      let t = x.table in
      let first = own_count t (mean x.below) in
      let y = tries mean write first b v (left t) x.below t in
      let at : At first b i y.table =
      goes sound mean see write tick renew law first b v sized there i (left t) x.below t ok.below (omega (arith, ok.within))
      (omega arith) low.present low.shut low.unused low.there low.passed low.takes in
      subst (MovedTo mean x b i) (sym (good_checked (layer_meaning mean x) b there (length v) y x sized))
      (record { stands = at.stands; last = at.last })
