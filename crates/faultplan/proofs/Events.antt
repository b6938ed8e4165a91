-- What each event changes in the checks that a table makes fail.
use Rattle.std.proofs.Common.{◌≡◌, ℕ, ◌+◌, Bool, true, false, ◌&&◌, eqb, ltb, sym, refl, ap, ◌∙◌, ⊎_elim}
use Rattle.std.proofs.lemmas.Bool.{false≢true, eqb-true, ne_eqb, and_parts, and_from, and_cases, and_left, and_right, cond_both, cases_Bool}
use Rattle.faultplan.specs.declared.entry.Kind.{Kind}
use Rattle.faultplan.specs.declared.entry.Kind.TheVariants.{Gone, Unreadable, Unwritable, Other}
use Rattle.faultplan.specs.declared.entry.Phase.{Phase}
use Rattle.faultplan.specs.declared.entry.Phase.TheVariants.{Waiting, Active, Spoiled, Ended}
use Rattle.faultplan.specs.declared.entry.Event.{Event}
use Rattle.faultplan.specs.declared.entry.Event.TheVariants.{Round, Refused, Accepted, Fresh}
use Rattle.faultplan.specs.declared.entry.Check.{Check}
use Rattle.faultplan.specs.declared.entry.Check.TheVariants.{Present, Readable, Writable}
use Rattle.faultplan.specs.declared.entry.Entry.{Entry}
use Rattle.faultplan.specs.declared.plan.Plan.{Plan}
use Rattle.faultplan.specs.Entries.{concerns, next_phase, after, removes, stops_reads, stops_writes, fails}
use Rattle.faultplan.specs.Plans.{failed, told, advanced, at_round}
use Rattle.faultplan.proofs.Anys.{any_alike, any_up, any_down, any_none}

-- ---- each kind in each phase, at an event that concerns it
refused_removes : (b : ℕ) (k : Kind) (f : Phase) → removes k (next_phase (Refused b) k f) ≡ removes k f
refused_removes b Gone f = refl
refused_removes b Unreadable f = refl
refused_removes b Unwritable f = refl
refused_removes b Other f = refl

refused_stops : (b : ℕ) (k : Kind) (f : Phase) → stops_writes k (next_phase (Refused b) k f) ≡ stops_writes k f
refused_stops b Gone f = refl
refused_stops b Unreadable f = refl
refused_stops b Unwritable Waiting = refl
refused_stops b Unwritable Active = refl
refused_stops b Unwritable Spoiled = refl
refused_stops b Unwritable Ended = refl
refused_stops b Other f = refl

-- what refuses a write stops reads from then on
refused_spoils : (b : ℕ) (k : Kind) (f : Phase) → stops_writes k f ≡ true → stops_reads k (next_phase (Refused b) k f) ≡ true
refused_spoils b Gone f h = absurd (false≢true h)
refused_spoils b Unreadable f h = absurd (false≢true h)
refused_spoils b Unwritable Waiting h = absurd (false≢true h)
refused_spoils b Unwritable Active h = refl
refused_spoils b Unwritable Spoiled h = refl
refused_spoils b Unwritable Ended h = absurd (false≢true h)
refused_spoils b Other f h = absurd (false≢true h)

accepted_removes : (b : ℕ) (k : Kind) (f : Phase) → removes k (next_phase (Accepted b) k f) ≡ removes k f
accepted_removes b Gone f = refl
accepted_removes b Unreadable f = refl
accepted_removes b Unwritable f = refl
accepted_removes b Other f = refl

accepted_stops : (b : ℕ) (k : Kind) (f : Phase) → stops_writes k (next_phase (Accepted b) k f) ≡ stops_writes k f
accepted_stops b Gone f = refl
accepted_stops b Unreadable f = refl
accepted_stops b Unwritable f = refl
accepted_stops b Other f = refl

-- where nothing refuses the write, nothing stops reads after it
accepted_mends : (b : ℕ) (k : Kind) (f : Phase) → stops_writes k f ≡ false → stops_reads k (next_phase (Accepted b) k f) ≡ false
accepted_mends b Gone f h = refl
accepted_mends b Unreadable Waiting h = refl
accepted_mends b Unreadable Active h = refl
accepted_mends b Unreadable Spoiled h = refl
accepted_mends b Unreadable Ended h = refl
accepted_mends b Unwritable Waiting h = refl
accepted_mends b Unwritable Active h = refl
accepted_mends b Unwritable Spoiled h = h
accepted_mends b Unwritable Ended h = refl
accepted_mends b Other f h = refl

-- a new round lifts nothing
round_removes : (n : ℕ) (k : Kind) (f : Phase) → removes k f ≡ true → removes k (next_phase (Round n) k f) ≡ true
round_removes n Gone Waiting h = refl
round_removes n Gone Active h = refl
round_removes n Gone Spoiled h = h
round_removes n Gone Ended h = h
round_removes n Unreadable f h = h
round_removes n Unwritable f h = h
round_removes n Other f h = h

round_stops : (n : ℕ) (k : Kind) (f : Phase) → stops_reads k f ≡ true → stops_reads k (next_phase (Round n) k f) ≡ true
round_stops n Gone f h = h
round_stops n Unreadable Waiting h = refl
round_stops n Unreadable Active h = refl
round_stops n Unreadable Spoiled h = h
round_stops n Unreadable Ended h = h
round_stops n Unwritable Waiting h = h
round_stops n Unwritable Active h = h
round_stops n Unwritable Spoiled h = refl
round_stops n Unwritable Ended h = h
round_stops n Other f h = h

fresh_removes : (k : Kind) (f : Phase) → removes k (next_phase Fresh k f) ≡ false
fresh_removes Gone Waiting = refl
fresh_removes Gone Active = refl
fresh_removes Gone Spoiled = refl
fresh_removes Gone Ended = refl
fresh_removes Unreadable f = refl
fresh_removes Unwritable f = refl
fresh_removes Other f = refl

fresh_reads : (k : Kind) (f : Phase) → stops_reads k (next_phase Fresh k f) ≡ false
fresh_reads Gone f = refl
fresh_reads Unreadable Waiting = refl
fresh_reads Unreadable Active = refl
fresh_reads Unreadable Spoiled = refl
fresh_reads Unreadable Ended = refl
fresh_reads Unwritable Waiting = refl
fresh_reads Unwritable Active = refl
fresh_reads Unwritable Spoiled = refl
fresh_reads Unwritable Ended = refl
fresh_reads Other f = refl

fresh_writes : (k : Kind) (f : Phase) → stops_writes k (next_phase Fresh k f) ≡ false
fresh_writes Gone f = refl
fresh_writes Unreadable f = refl
fresh_writes Unwritable Waiting = refl
fresh_writes Unwritable Active = refl
fresh_writes Unwritable Spoiled = refl
fresh_writes Unwritable Ended = refl
fresh_writes Other f = refl

-- nothing becomes of an entry that has ended
ended_next : (ev : Event) (k : Kind) → next_phase ev k Ended ≡ Ended
ended_next (Round n) k = refl
ended_next (Refused b) Gone = refl
ended_next (Refused b) Unreadable = refl
ended_next (Refused b) Unwritable = refl
ended_next (Refused b) Other = refl
ended_next (Accepted b) Gone = refl
ended_next (Accepted b) Unreadable = refl
ended_next (Accepted b) Unwritable = refl
ended_next (Accepted b) Other = refl
ended_next Fresh k = refl

-- ---- one entry, whether or not the event concerns it
module _ (ev : Event) (e : Entry) where
  -- what holds of its phase before and after holds after it was told
  told_entry : (P : Phase → Type 0) → P (next_phase ev e.kind e.phase) → P e.phase → P (after ev e).phase
  told_entry P new old = cond_both (concerns ev e) (next_phase ev e.kind e.phase) e.phase P (λ _. new) (λ _. old)

  keeps : (test : Kind → Phase → Bool) → ((k : Kind) (f : Phase) → test k (next_phase ev k f) ≡ test k f)
      → test e.kind (after ev e).phase ≡ test e.kind e.phase
  keeps test h = told_entry (λ f. test e.kind f ≡ test e.kind e.phase) (h e.kind e.phase) refl

  lifts : (test : Kind → Phase → Bool) → ((k : Kind) (f : Phase) → test k f ≡ true → test k (next_phase ev k f) ≡ true)
      → test e.kind e.phase ≡ true → test e.kind (after ev e).phase ≡ true
  lifts test h t = told_entry (λ f. test e.kind f ≡ true) (h e.kind e.phase t) t

  -- an entry of block b, as seen from another block
  elsewhere : (b k : ℕ) → (k ≡ b → ⊥) → concerns ev e ≡ eqb e.block b → fails (Readable k) (after ev e) ≡ fails (Readable k) e
  elsewhere b k ne same =
      let there = stops_reads e.kind e.phase && eqb e.block k in
      cond_both (concerns ev e) (next_phase ev e.kind e.phase) e.phase (λ f. (stops_reads e.kind f && eqb e.block k) ≡ there)
      (λ c.
      let other = ne_eqb e.block k (λ q. ne (sym q ∙ eqb-true e.block b (sym same ∙ c))) in
      and_right _ _ other ∙ sym (and_right (stops_reads e.kind e.phase) _ other))
      (λ _. refl)

-- ---- the table
module _ (p : Plan) (b : ℕ) where
  pub refused_gone : failed Present (told (Refused b) p) ≡ failed Present p
  refused_gone = any_alike (fails Present) (fails Present) (after (Refused b)) (λ e. keeps (Refused b) e removes (refused_removes b)) p.entries

  pub refused_writes : (k : ℕ) → failed (Writable k) (told (Refused b) p) ≡ failed (Writable k) p
  refused_writes k =
      any_alike (fails (Writable k)) (fails (Writable k)) (after (Refused b))
      (λ e. ap (λ x. x && eqb e.block k) (keeps (Refused b) e stops_writes (refused_stops b))) p.entries

  pub refused_reads : (k : ℕ) → (k ≡ b → ⊥) → failed (Readable k) (told (Refused b) p) ≡ failed (Readable k) p
  refused_reads k ne = any_alike (fails (Readable k)) (fails (Readable k)) (after (Refused b)) (λ e. elsewhere (Refused b) e b k ne refl) p.entries

  -- after a write that the table refused, the block is unreadable
  pub refused_here : failed (Writable b) p ≡ true → failed (Readable b) (told (Refused b) p) ≡ true
  refused_here = any_up (fails (Readable b)) (fails (Writable b)) (after (Refused b)) (λ e t.
      let h = and_parts (stops_writes e.kind e.phase) (eqb e.block b) t in
      and_from _ (eqb e.block b)
      (cond_both (eqb e.block b) (next_phase (Refused b) e.kind e.phase) e.phase (λ f. stops_reads e.kind f ≡ true)
      (λ _. refused_spoils b e.kind e.phase h.0) (λ off. absurd (false≢true (sym off ∙ h.1))))
      h.1) p.entries

  pub accepted_gone : failed Present (told (Accepted b) p) ≡ failed Present p
  accepted_gone = any_alike (fails Present) (fails Present) (after (Accepted b)) (λ e. keeps (Accepted b) e removes (accepted_removes b)) p.entries

  pub accepted_writes : (k : ℕ) → failed (Writable k) (told (Accepted b) p) ≡ failed (Writable k) p
  accepted_writes k =
      any_alike (fails (Writable k)) (fails (Writable k)) (after (Accepted b))
      (λ e. ap (λ x. x && eqb e.block k) (keeps (Accepted b) e stops_writes (accepted_stops b))) p.entries

  pub accepted_reads : (k : ℕ) → (k ≡ b → ⊥) → failed (Readable k) (told (Accepted b) p) ≡ failed (Readable k) p
  accepted_reads k ne = any_alike (fails (Readable k)) (fails (Readable k)) (after (Accepted b)) (λ e. elsewhere (Accepted b) e b k ne refl) p.entries

  -- after an accepted write, the block is readable as far as the table goes
  pub accepted_here : failed (Writable b) p ≡ false → failed (Readable b) (told (Accepted b) p) ≡ false
  accepted_here = any_down (fails (Readable b)) (fails (Writable b)) (after (Accepted b)) (λ e t.
      ⊎_elim
      (λ (on : eqb e.block b ≡ true).
      let h = ⊎_elim (λ x. x) (λ off. absurd (false≢true (sym off ∙ on))) (and_cases (stops_writes e.kind e.phase) (eqb e.block b) t) in
      and_left _ (eqb e.block b)
      (cond_both (eqb e.block b) (next_phase (Accepted b) e.kind e.phase) e.phase (λ f. stops_reads e.kind f ≡ false)
      (λ _. accepted_mends b e.kind e.phase h) (λ off. absurd (false≢true (sym off ∙ on)))))
      (λ (off : eqb e.block b ≡ false). and_right _ (eqb e.block b) off)
      (cases_Bool (eqb e.block b))) p.entries

pub ended_stays : (ev : Event) (e : Entry) → e.phase ≡ Ended → (after ev e).phase ≡ Ended
ended_stays ev e h = told_entry ev e (λ f. f ≡ Ended) (ap (next_phase ev e.kind) h ∙ ended_next ev e.kind) h

-- after fresh, no entry makes a check fail
fresh_passes : (c : Check) (e : Entry) → fails c (after Fresh e) ≡ false
fresh_passes Present e = fresh_removes e.kind e.phase
fresh_passes (Readable b) e = and_left _ _ (fresh_reads e.kind e.phase)
fresh_passes (Writable b) e = and_left _ _ (fresh_writes e.kind e.phase)

pub fresh_clears : (c : Check) (p : Plan) → failed c (told Fresh p) ≡ false
fresh_clears c p = any_none (fails c) (after Fresh) (fresh_passes c) p.entries

module _ (p : Plan) where
  pub advanced_gone : failed Present p ≡ true → failed Present (advanced p) ≡ true
  advanced_gone h =
      let n = p.round + 1 in
      cond_both (ltb p.round 65535) (told (Round n) (at_round n p)) p (λ q. failed Present q ≡ true)
      (λ _. any_up (fails Present) (fails Present) (after (Round n)) (λ e. lifts (Round n) e removes (round_removes n)) p.entries h) (λ _. h)

  pub advanced_reads : (k : ℕ) → failed (Readable k) p ≡ true → failed (Readable k) (advanced p) ≡ true
  advanced_reads k h =
      let n = p.round + 1 in
      cond_both (ltb p.round 65535) (told (Round n) (at_round n p)) p (λ q. failed (Readable k) q ≡ true)
      (λ _. any_up (fails (Readable k)) (fails (Readable k)) (after (Round n)) (λ e t.
      let a = and_parts (stops_reads e.kind e.phase) (eqb e.block k) t in
      and_from _ (eqb e.block k) (lifts (Round n) e stops_reads (round_stops n) a.0) a.1) p.entries h)
      (λ _. h)
