-- A scrub, slot by slot.
use Rattle.std.proofs.Common.{◌≡◌, ℕ, ◌+◌, ◌<◌, ◌≤◌, Bool, true, false, cond, not, ◌&&◌, List, is_some, is_ok, Some, Option, Result, sym, refl, ap, ◌∙◌, subst, ap₂, ⊎_elim, add-zero, arith}
use Rattle.std.proofs.lemmas.Bool.{true≢false, false≢true, cases_lt, cond-true, cond-false, lt-ltb, le-ltb}
use Rattle.code.specs.Blocks.{block_size}
use Rattle.member.specs.Faults.{Refusal}
use Rattle.member.specs.Meaning.{Meaning, write_refusal}
use Rattle.member.specs.Changes.{Written}
use Rattle.bank.specs.declared.BankFault.{BankFault}
use Rattle.bank.specs.Slots.{Slots, bank_refusal, on_slot}
use Rattle.contents.specs.declared.Status.{Status}
use Rattle.contents.specs.contracts.Status.{the_type}
use denote.Enum.Bare.{sameb}
use Rattle.contents.specs.declared.Status.TheVariants as st
use Rattle.contents.specs.Columns.{Members, Frontiers, status, held, is_current, is_unreadable, is_absent, count}
use Rattle.contents.specs.Changes.{Moved, Steps, Put}
use Rattle.contents.specs.Answers.{takes}
use Rattle.contents.proofs.Statuses.{current_is}
use Rattle.contents.proofs.Masks.{count_none, count_more, count_le}
use Rattle.contents.proofs.Walks.{steps_none, steps_more, walk_rest}
use Rattle.volume.specs.declared.survey.Tally.{Tally}
use Rattle.volume.specs.Slots.{members_of}
use Rattle.volume.specs.Tallies.{tally_of, with_standing, with_mend}
use Rattle.volume.proofs.Looking.{ok_is, members_here, members_beyond, members_empty}

not_current : (x : Status) → is_unreadable x ≡ true → is_current x ≡ false
not_current st.Current e = absurd (false≢true e)
not_current st.Gone e = refl
not_current st.Behind e = refl
not_current st.Unreadable e = refl

not_absent : (x : Status) → is_unreadable x ≡ true → is_absent x ≡ false
not_absent st.Current e = refl
not_absent st.Gone e = absurd (false≢true e)
not_absent st.Behind e = absurd (false≢true e)
not_absent st.Unreadable e = refl

-- a status that was compared with Unreadable
pub unreadable_is : (x y : Status) (b : Bool) → b ≡ not (sameb the_type x st.Unreadable) → x ≡ y → is_unreadable y ≡ not b
unreadable_is x y b h e = ap is_unreadable (sym e) ∙ told x ∙ ap not (sym h)
  where
    told : (x : Status) → is_unreadable x ≡ not (not (sameb the_type x st.Unreadable))
    told st.Current = refl
    told st.Gone = refl
    told st.Behind = refl
    told st.Unreadable = refl

-- an unreadable column is missing
pub unreadable_missing : (M : Members) (F : Frontiers) (s i j : ℕ) → j ≡ i → is_unreadable (status M F s i) ≡ true → is_some (held M F s j) ≡ false
unreadable_missing M F s i j e u = ap (λ (x : ℕ). is_some (held M F s x)) e ∙ current_is M F s i ∙ not_current (status M F s i) u

-- ---- the members
module _ (M : Members) (F : Frontiers) (s : ℕ) (col : ℕ → List ℕ) where
  abbrev pub mends : ℕ → Members → Members → Type 0
  mends j = Moved (Put (is_unreadable (status M F s j)) s (col j)) j

  pub scrub_none : (i : ℕ) → i ≡ 0 → Steps i mends M M
  scrub_none i e = subst (λ (x : ℕ). Steps x mends M M) (sym e) (steps_none mends M)

  -- a slot that needs no writing
  pub scrub_skip : (i j : ℕ) (N : Members) → i ≡ j + 1 → Steps j mends M N → is_unreadable (status M F s j) ≡ false → Steps i mends M N
  scrub_skip i j N e w u = subst (λ (x : ℕ). Steps x mends M N) (sym e)
      (steps_more mends j M N N w (record { here = record { written = λ d. absurd (true≢false (sym d ∙ u)); kept = λ _. refl }; others = λ k ne. refl }))

  -- one that was written
  pub scrub_write : (i j : ℕ) (N O : Members) → i ≡ j + 1 → Steps j mends M N → is_unreadable (status M F s j) ≡ true → Moved (λ m n. Written m s (col j) n) j N O → Steps i mends M O
  scrub_write i j N O e w u h = subst (λ (x : ℕ). Steps x mends M O) (sym e)
      (steps_more mends j M N O w (record { here = record { written = λ _. h.here; kept = λ d. absurd (true≢false (sym u ∙ d)) }; others = h.others }))

  -- no slot was written before its turn
  pub not_yet : (j : ℕ) (N : Members) → Steps j mends M N → N j ≡ M j
  not_yet j N w = walk_rest j (λ x. Put (is_unreadable (status M F s x)) s (col x)) M N w j (omega arith)

-- ---- what a write to a slot answers
both_some : (o : Option Refusal) (f : Refusal) (p : Option Refusal) (g : Refusal) → o ≡ Some f → p ≡ Some g → is_some o ≡ is_some p
both_some o f p g e h = ap is_some e ∙ sym (ap is_some h)

write_tells : (ms : Slots) (i s : ℕ) → is_some (on_slot ms i s (λ m. write_refusal m s block_size)) ≡ is_some (write_refusal (members_of ms i) s block_size)
write_tells ms i s =
    ⊎_elim
    (λ (l : i < ms.size).
    ⊎_elim
    (λ (p : 0 < (ms.member i).count).
    ap is_some (cond-true _ _ _ (lt-ltb i ms.size l)) ∙ ap (λ (m : Meaning). is_some (write_refusal m s block_size)) (sym (members_here ms i l p)))
    (λ (p : (ms.member i).count ≤ 0).
    both_some _ _ _ _ (cond-true _ _ _ (lt-ltb i ms.size l) ∙ cond-false _ _ _ (le-ltb s (ms.member i).count (omega arith)))
    (ap (λ (m : Meaning). write_refusal m s block_size) (members_empty ms i p) ∙ cond-false _ _ _ (le-ltb s 0 (omega arith))))
    (cases_lt 0 (ms.member i).count))
    (λ (l : ms.size ≤ i).
    both_some _ _ _ _ (cond-false _ _ _ (le-ltb i ms.size l))
    (ap (λ (m : Meaning). write_refusal m s block_size) (members_beyond ms i l) ∙ cond-false _ _ _ (le-ltb s 0 (omega arith))))
    (cases_lt i ms.size)

pub write_takes_is : (ms : Slots) (i s n : ℕ) (m : Meaning) (r : Result Unit BankFault) (ok : Bool) → n ≡ block_size → members_of ms i ≡ m
    → bank_refusal r ≡ on_slot ms i s (λ x. write_refusal x s n) → ok ≡ is_ok r → ok ≡ takes m s
write_takes_is ms i s n m r ok en em e q =
    q ∙ ok_is r
    ∙ ap (λ (o : Option Refusal). not (is_some o)) (e ∙ ap (λ (x : ℕ). on_slot ms i s (λ y. write_refusal y s x)) en)
    ∙ ap not (write_tells ms i s) ∙ ap (λ (x : Meaning). takes x s) em

-- ---- the tally
same_tally : (a b c x y z : ℕ) → a ≡ x → b ≡ y → c ≡ z → ◌≡◌ {A = Tally} (record { mended = a; refused = b; absent = c }) (record { mended = x; refused = y; absent = z })
same_tally a b c x y z p q r = cc

count_skip : (p : ℕ → Bool) (j : ℕ) → p j ≡ false → count p j ≡ count p (j + 1)
count_skip p j e = sym (count_more p j ∙ ap (λ (b : Bool). count p j + cond b 1 0) e ∙ add-zero (count p j))

count_step : (p : ℕ → Bool) (j : ℕ) (b : Bool) → b ≡ p j → count p j + cond b 1 0 ≡ count p (j + 1)
count_step p j b e = ap (λ (x : Bool). count p j + cond x 1 0) e ∙ sym (count_more p j)

flip : (b : Bool) → ◌≡◌ {A = ℕ} (cond b 0 1) (cond (not b) 1 0)
flip true = refl
flip false = refl

module _ (M : Members) (F : Frontiers) (s : ℕ) where
  pub tally_none : (i : ℕ) → i ≡ 0 → record { mended = 0; refused = 0; absent = 0 } ≡ tally_of M F s i
  tally_none i e = subst (λ (x : ℕ). record { mended = 0; refused = 0; absent = 0 } ≡ tally_of M F s x) (sym e) (same_tally _ _ _ _ _ _ (sym (count_none _)) (sym (count_none _)) (sym (count_none _)))

  pub tally_skip : (i j : ℕ) (x : Status) (t r : Tally) → i ≡ j + 1 → x ≡ status M F s j → is_unreadable (status M F s j) ≡ false → t ≡ tally_of M F s j → r ≡ with_standing t x → r ≡ tally_of M F s i
  tally_skip i j x t r e ex u et er =
      er ∙ ap₂ with_standing et ex
      ∙ same_tally _ _ _ _ _ _
      (count_skip (λ k. is_unreadable (status M F s k) && takes (M k) s) j (ap (λ (b : Bool). b && takes (M j) s) u))
      (count_skip (λ k. is_unreadable (status M F s k) && not (takes (M k) s)) j (ap (λ (b : Bool). b && not (takes (M j) s)) u))
      (count_step (λ k. is_absent (status M F s k)) j _ refl)
      ∙ ap (tally_of M F s) (sym e)

  pub tally_mend : (i j : ℕ) (ok : Bool) (t r : Tally) → i ≡ j + 1 → ok ≡ takes (M j) s → is_unreadable (status M F s j) ≡ true → t ≡ tally_of M F s j → r ≡ with_mend t ok → r ≡ tally_of M F s i
  tally_mend i j ok t r e eo u et er =
      er ∙ ap₂ with_mend et eo
      ∙ same_tally _ _ _ _ _ _
      (count_step (λ k. is_unreadable (status M F s k) && takes (M k) s) j (takes (M j) s) (sym (ap (λ (b : Bool). b && takes (M j) s) u)))
      (ap (λ (x : ℕ). count (λ k. is_unreadable (status M F s k) && not (takes (M k) s)) j + x) (flip (takes (M j) s))
      ∙ count_step (λ k. is_unreadable (status M F s k) && not (takes (M k) s)) j (not (takes (M j) s)) (sym (ap (λ (b : Bool). b && not (takes (M j) s)) u)))
      (count_skip (λ k. is_absent (status M F s k)) j (not_absent (status M F s j) u))
      ∙ ap (tally_of M F s) (sym e)

  -- no count is above the number of slots
  pub tally_low : (i : ℕ) (t : Tally) → i ≤ 18 → t ≡ tally_of M F s i → (t.mended ≤ 18) × (t.refused ≤ 18) × (t.absent ≤ 18)
  tally_low i t l e =
      let a = count_le (λ k. is_unreadable (status M F s k) && takes (M k) s) i in
      let b = count_le (λ k. is_unreadable (status M F s k) && not (takes (M k) s)) i in
      let d = count_le (λ k. is_absent (status M F s k)) i in
      let ea = ap (λ (x : Tally). x.mended) e in
      let eb = ap (λ (x : Tally). x.refused) e in
      let ed = ap (λ (x : Tally). x.absent) e in
      (omega arith, omega arith, omega arith)
