-- A chain at a slot that is not its first, and the laws of chains.
use Rattle.std.specs.Prelude.{◌≡◌, ℕ, zero, suc, ◌-◌, ◌<◌, true, false, cond, ltb, List, Some, Option, ◌≢◌, nat_lt, refl}
use Rattle.std.proofs.Common.{sym, ap, subst, ◌∙◌, ⊎_elim, arith}
use Rattle.std.proofs.lemmas.Bool.{cases_Bool, ltb-true, ltb-false, lt-ltb, le-ltb}
use Rattle.member.specs.Faults.{Refusal}
use Rattle.member.specs.Meaning.{Meaning, Sound, handed}
use Rattle.member.specs.Changes.{Written, Ticked, Renewed, Lawful as MemberLawful}
use Rattle.bank.specs.Slots.{Slots, no_slot, on_slot, slot_handed}
use Rattle.bank.specs.Changes.{Changed, Lawful}
use Rattle.bank.specs.Chains.{before, linked_slots, Linked, linked, LinkedSound, linked_meaning, linked_change}

ltb_next : (i n : ℕ) → nat_lt i n ≡ nat_lt (suc i) (suc n)
ltb_next i n =
    ⊎_elim (λ (e : ltb i n ≡ true). let h = ltb-true i n e in e ∙ sym (lt-ltb (suc i) (suc n) (omega (arith, h))))
    (λ (e : ltb i n ≡ false). let h = ltb-false i n e in e ∙ sym (le-ltb (suc i) (suc n) (omega (arith, h)))) (cases_Bool (nat_lt i n))

less_one : (i : ℕ) → suc i - 1 ≡ i
less_one i = omega arith

-- ---- what the rest answers is what the chain answers one slot further
module _ (m : Meaning) (ms : Slots) (b : ℕ) where
  pub on_rest : (f : Meaning → Option Refusal) (i : ℕ) → (i ≢ 0) → on_slot ms (i - 1) b f ≡ on_slot (linked_slots m ms) i b f
  on_rest f zero ne = absurd (ne refl)
  on_rest f (suc i) ne = ap (λ k. on_slot ms k b f) (less_one i) ∙ ap (λ x. cond x (f (ms.member i)) (Some (no_slot b))) (ltb_next i ms.size)

  pub handed_rest : (old : List ℕ) (i : ℕ) → (i ≢ 0) → slot_handed ms (i - 1) b old ≡ slot_handed (linked_slots m ms) i b old
  handed_rest old zero ne = absurd (ne refl)
  handed_rest old (suc i) ne = ap (λ k. slot_handed ms k b old) (less_one i) ∙ ap (λ x. cond x (handed (ms.member i) b old) old) (ltb_next i ms.size)

-- ---- a change of the rest is a change of the chain one slot further
pub change_rest : {S T : Type 0} (f : S → S) (g : T → ℕ → T) (s : S) (t u : T) (i : ℕ) → (i ≢ 0) → u ≡ g t (i - 1)
    → linked s u ≡ linked_change f g (linked s t) i
change_rest f g s t u zero ne e = absurd (ne refl)
change_rest f g s t u (suc i) ne e = ap (linked s) (e ∙ ap (g t) (less_one i))

module _ (R : Meaning → Meaning → Type 0) (m : Meaning) (ms ns : Slots) where
  kept_rest : (i : ℕ) → Changed R ms i ns → (k : ℕ) → (k ≢ suc i) → before m ns.member k ≡ before m ms.member k
  kept_rest i h zero ne = refl
  kept_rest i h (suc k) ne = h.others k (λ e. ne (ap suc e))

  changed_next : (i : ℕ) → Changed R ms i ns → Changed R (linked_slots m ms) (suc i) (linked_slots m ns)
  changed_next i h = record {
    size = ap suc h.size;
    here = λ lt. h.here (omega arith);
    others = kept_rest i h;
    beyond = λ le. ap (linked_slots m) (h.beyond (omega arith));
  }

  pub changed_rest : (i : ℕ) → (i ≢ 0) → Changed R ms (i - 1) ns → Changed R (linked_slots m ms) i (linked_slots m ns)
  changed_rest zero ne h = absurd (ne refl)
  changed_rest (suc i) ne h = changed_next i (subst (λ k. Changed R ms k ns) (less_one i) h)

module _ (R : Meaning → Meaning → Type 0) (m n : Meaning) (ms : Slots) where
  kept_first : (k : ℕ) → (k ≢ 0) → before n ms.member k ≡ before m ms.member k
  kept_first zero ne = absurd (ne refl)
  kept_first (suc k) ne = refl

  changed_first : R m n → Changed R (linked_slots m ms) 0 (linked_slots n ms)
  changed_first h = record { size = refl; here = λ _. h; others = kept_first; beyond = λ le. absurd (omega arith) }

-- ---- the laws, from those of the first member and of the rest
module _ {S T : Type 0} {P : S → Type 0} {Q : T → Type 0} (m : S → Meaning) (ms : T → Slots) where
  changes : (R : Meaning → Meaning → Type 0) (f : S → S) (g : T → ℕ → T) → ((s : S) → P s → R (m s) (m (f s)))
      → ((t : T) (k : ℕ) → Q t → Changed R (ms t) k (ms (g t k))) → (s : Linked S T) (i : ℕ) → LinkedSound P Q s
      → Changed R (linked_meaning m ms s) i (linked_meaning m ms (linked_change f g s i))
  changes R f g hf hg s zero h = changed_first R (m s.first) (m (f s.first)) (ms s.rest) (hf s.first h.first)
  changes R f g hf hg s (suc i) h = changed_next R (m s.first) (ms s.rest) (ms (g s.rest i)) i (hg s.rest i h.rest)

  keeps : (f : S → S) (g : T → ℕ → T) → ((s : S) → P s → m (f s) ≡ m s) → ((t : T) (k : ℕ) → Q t → ms (g t k) ≡ ms t)
      → (s : Linked S T) (i : ℕ) → LinkedSound P Q s → linked_meaning m ms (linked_change f g s i) ≡ linked_meaning m ms s
  keeps f g hf hg s zero h = ap (λ x. linked_slots x (ms s.rest)) (hf s.first h.first)
  keeps f g hf hg s (suc i) h = ap (linked_slots (m s.first)) (hg s.rest i h.rest)

  stays : (f : S → S) (g : T → ℕ → T) → ((s : S) → P s → P (f s)) → ((t : T) (k : ℕ) → Q t → Q (g t k))
      → (s : Linked S T) (i : ℕ) → LinkedSound P Q s → LinkedSound P Q (linked_change f g s i)
  stays f g hf hg s zero h = record { first = hf s.first h.first; rest = h.rest }
  stays f g hf hg s (suc i) h = record { first = h.first; rest = hg s.rest i h.rest }

  sounds : ((s : S) → P s → Sound (m s)) → ((t : T) → Q t → (k : ℕ) → k < (ms t).size → Sound ((ms t).member k))
      → (s : Linked S T) → LinkedSound P Q s → (i : ℕ) → i < suc (ms s.rest).size → Sound ((linked_meaning m ms s).member i)
  sounds hf hg s h zero lt = hf s.first h.first
  sounds hf hg s h (suc i) lt = hg s.rest h.rest i (omega arith)

module _ {S T : Type 0} {P : S → Type 0} {m : S → Meaning} {mseen : S → ℕ → ℕ → S} {mwrote : S → ℕ → List ℕ → S} {mticked mrenewed : S → S}
    {Q : T → Type 0} {ms : T → Slots} {bseen : T → ℕ → ℕ → ℕ → T} {bwrote : T → ℕ → ℕ → List ℕ → T} {bticked brenewed : T → ℕ → T} where
  pub linked_lawful : MemberLawful P m mseen mwrote mticked mrenewed → Lawful Q ms bseen bwrote bticked brenewed
      → Lawful (λ s. LinkedSound P Q s) (λ s. linked_meaning m ms s) (λ s i b n. linked_change (λ x. mseen x b n) (λ x k. bseen x k b n) s i)
      (λ s i b v. linked_change (λ x. mwrote x b v) (λ x k. bwrote x k b v) s i)
      (λ s i. linked_change mticked bticked s i) (λ s i. linked_change mrenewed brenewed s i)
  linked_lawful L K = record {
    means = sounds m ms L.means K.means;
    sees = λ s i b n h. keeps m ms (λ x. mseen x b n) (λ x k. bseen x k b n) (λ x p. L.sees x b n p) (λ x k q. K.sees x k b n q) s i h;
    writes = λ s i b v h. changes m ms (λ x y. Written x b v y) (λ x. mwrote x b v) (λ x k. bwrote x k b v) (λ x p. L.writes x b v p)
        (λ x k q. K.writes x k b v q) s i h;
    ticks = λ s i h. changes m ms Ticked mticked bticked L.ticks K.ticks s i h;
    renews = λ s i h. changes m ms Renewed mrenewed brenewed L.renews K.renews s i h;
    seen_sound = λ s i b n h. stays m ms (λ x. mseen x b n) (λ x k. bseen x k b n) (λ x p. L.seen_sound x b n p) (λ x k q. K.seen_sound x k b n q) s i h;
    wrote_sound = λ s i b v h bytes. stays m ms (λ x. mwrote x b v) (λ x k. bwrote x k b v) (λ x p. L.wrote_sound x b v p bytes)
        (λ x k q. K.wrote_sound x k b v q bytes) s i h;
    ticked_sound = λ s i h. stays m ms mticked bticked L.ticked_sound K.ticked_sound s i h;
    renewed_sound = λ s i h. stays m ms mrenewed brenewed L.renewed_sound K.renewed_sound s i h;
  }
