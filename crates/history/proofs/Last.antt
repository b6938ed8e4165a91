-- The written content is, block by block, the last taken write.
use Rattle.std.proofs.Common.{◌≡◌, ℕ, zero, suc, ◌<◌, true, false, ◌⊎◌, List, sym, refl, ap, ◌∙◌, subst, inl, inr, ⊎_elim, arith}
use Rattle.std.proofs.lemmas.Bool.{true≢false, cases_Bool, cases_eq, cond-true, cond-false, eq-eqb}
use Rattle.code.specs.Blocks.{zeros}
use Rattle.parity.proofs.Sums.{put_other}
use Rattle.history.specs.Calls.{Call, Answer}
use Rattle.history.specs.Calls.Call.{tick, read, write, scrub, replace, open_slot, step, close, margin}
use Rattle.history.specs.History.{Event, taken, after, written, Takes, LastWritten}

-- a call puts b at block a as a taken write there, or is none and leaves that block
abbrev Puts : (ℕ → List ℕ) → ℕ → Call → Answer → Type 0
Puts c a q r = (b : List ℕ) × ((q ≡ write a b) × (taken r ≡ true)) × (after c q r a ≡ b)

abbrev Leaves : (ℕ → List ℕ) → ℕ → Call → Answer → Type 0
Leaves c a q r = ((v : List ℕ) → (q ≡ write a v) × (taken r ≡ true) → ⊥) × (after c q r a ≡ c a)

does : (c : ℕ → List ℕ) (a : ℕ) (q : Call) (r : Answer) → Puts c a q r ⊎ Leaves c a q r
does c a tick r = inr ((λ v t. let e = t.0 in cc), refl)
does c a (read x len) r = inr ((λ v t. let e = t.0 in cc), refl)
does c a (write x b) r =
    ⊎_elim
    (λ (p : taken r ≡ true).
    ⊎_elim
    (λ (e : a ≡ x). inl (b, (ap (λ (y : ℕ). write y b) (sym e), p), ap (λ (f : ℕ → List ℕ). f a) (cond-true _ _ _ p) ∙ cond-true _ _ _ (eq-eqb a x e)))
    (λ (n : a ≡ x → ⊥). inr ((λ v t. let e = t.0 in n cc), ap (λ (f : ℕ → List ℕ). f a) (cond-true _ _ _ p) ∙ put_other c x b a n))
    (cases_eq a x))
    (λ (p : taken r ≡ false). inr ((λ v t. true≢false (sym t.1 ∙ p)), ap (λ (f : ℕ → List ℕ). f a) (cond-false _ _ _ p)))
    (cases_Bool (taken r))
does c a (scrub s) r = inr ((λ v t. let e = t.0 in cc), refl)
does c a (replace i) r = inr ((λ v t. let e = t.0 in cc), refl)
does c a (open_slot i) r = inr ((λ v t. let e = t.0 in cc), refl)
does c a (step i) r = inr ((λ v t. let e = t.0 in cc), refl)
does c a (close i) r = inr ((λ v t. let e = t.0 in cc), refl)
does c a margin r = inr ((λ v t. let e = t.0 in cc), refl)

-- the last taken write stays the last over a call that is none
last_more : (event : ℕ → Event) (j a : ℕ) (b : List ℕ) → LastWritten event j a b → ((v : List ℕ) → Takes (event j) a v → ⊥) → LastWritten event (suc j) a b
last_more event j a b l n =
    ⊎_elim
    (λ (p : (i : ℕ) × (i < j) × Takes (event i) a b × ((u : ℕ) (v : List ℕ) → i < u → u < j → Takes (event u) a v → ⊥)).
    inl (
      p.0,
      omega (arith, p.1),
      p.2,
      λ u v x y t.
          ⊎_elim (λ (e : u ≡ j). n v (subst (λ (x : ℕ). Takes (event x) a v) e t)) (λ (e : u ≡ j → ⊥). p.3 u v x (omega arith) t) (cases_eq u j),
    ))
    (λ (p : (b ≡ zeros) × ((u : ℕ) (v : List ℕ) → u < j → Takes (event u) a v → ⊥)).
    inr (
      p.0,
      λ u v y t.
          ⊎_elim (λ (e : u ≡ j). n v (subst (λ (x : ℕ). Takes (event x) a v) e t)) (λ (e : u ≡ j → ⊥). p.1 u v (omega arith) t) (cases_eq u j),
    ))
    l

pub last_of : (event : ℕ → Event) (j a : ℕ) → LastWritten event j a (written event j a)
unfolding written
last_of event zero a = inr (refl, λ u v l. absurd (omega arith))
last_of event (suc j) a =
    let c = written event j in
    let q = (event j).call in
    let r = (event j).answer in
    ⊎_elim
    (λ (p : Puts c a q r). subst (LastWritten event (suc j) a) (sym p.2) (inl (j, omega arith, p.1, λ u v y z. absurd (omega arith))))
    (λ (p : Leaves c a q r). subst (LastWritten event (suc j) a) (sym p.1) (last_more event j a (c a) (last_of event j a) p.0))
    (does c a q r)
