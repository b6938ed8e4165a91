-- What looks and reads tell of the members of a bank.
use Rattle.std.proofs.Common.{◌≡◌, ℕ, ◌<◌, ◌≤◌, Bool, true, false, cond, not, ltb, List, length, is_some, is_ok, Some, None, Ok, Err, Option, Result, unwrap_or, sym, refl, ap, ◌∙◌, ⊎_elim, arith}
use Rattle.std.proofs.lemmas.Bool.{true≢false, false≢true, cases_Bool, cond-true, cond-false, and_from, and_left, and_right, eq-eqb, lt-ltb, le-ltb, ltb-true, ltb-false}
use Rattle.code.specs.Blocks.{block_size}
use Rattle.parity.specs.Ways.{or_else}
use Rattle.member.specs.Faults.{Refusal, Origin, refused_with, raised}
use Rattle.member.specs.declared.Cause.TheVariants.{Gone, Unreadable}
use Rattle.member.specs.Meaning.{Meaning, Sound, look_refusal, read_refusal}
use Rattle.bank.specs.declared.BankFault.{BankFault}
use Rattle.bank.specs.Slots.{Slots, bank_refusal, no_slot, on_slot, slot_handed}
use Rattle.contents.specs.Columns.{Frontiers, held, status}
use Rattle.contents.specs.declared.Status.TheVariants as st
use Rattle.contents.proofs.Statuses.{shown, held_is, status_is, status_by}
use Rattle.volume.specs.Slots.{members_of, empty_member}

-- a call is taken exactly where nothing is refused
pub ok_is : {U : Type 0} (r : Result U BankFault) → is_ok r ≡ not (is_some (bank_refusal r))
ok_is (Ok u) = refl
ok_is (Err f) = refl

module _ (ms : Slots) (i : ℕ) where
  pub members_here : i < ms.size → 0 < (ms.member i).count → members_of ms i ≡ ms.member i
  unfolding members_of
  members_here l h = cond-true _ _ _ (and_from _ _ (lt-ltb i ms.size l) (lt-ltb 0 (ms.member i).count h))

  pub members_beyond : ms.size ≤ i → members_of ms i ≡ empty_member
  unfolding members_of
  members_beyond l = cond-false _ _ _ (and_left _ _ (le-ltb i ms.size l))

  pub members_empty : (ms.member i).count ≤ 0 → members_of ms i ≡ empty_member
  unfolding members_of
  members_empty l = cond-false _ _ _ (and_right _ _ (le-ltb 0 (ms.member i).count l))

-- by gone and the block
abbrev pub seen_by : Bool → Option (List ℕ) → Option (List ℕ)
seen_by g o = cond g None o

-- what is refused of a block, by gone and the block
some_by : (g : Bool) (o : Option (List ℕ)) (x y : Origin) → is_some (cond g (Some (raised Gone x)) (cond (is_some o) None (Some (raised Unreadable y)))) ≡ not (is_some (seen_by g o))
some_by true o x y = refl
some_by false None x y = refl
some_by false (Some v) x y = refl

gone_by : (g : Bool) (o : Option (List ℕ)) (x y : Origin) → refused_with 1 (cond g (Some (raised Gone x)) (cond (is_some o) None (Some (raised Unreadable y)))) ≡ g
gone_by true o x y = refl
gone_by false None x y = refl
gone_by false (Some v) x y = refl

seen_none : (g : Bool) → seen_by g None ≡ None
seen_none true = refl
seen_none false = refl

module _ (ms : Slots) (sound : (i : ℕ) → i < ms.size → Sound (ms.member i)) (i b : ℕ) where
  -- beyond its count a member shows nothing
  nothing_beyond : i < ms.size → (ms.member i).count ≤ b → seen_by (members_of ms i).gone ((members_of ms i).block b) ≡ None
  nothing_beyond li lb =
      ⊎_elim
      (λ (z : ltb 0 (ms.member i).count ≡ true).
      let h = members_here ms i li (ltb-true 0 (ms.member i).count z) in
      ap (λ (m : Meaning). seen_by m.gone (m.block b)) h ∙ ap (λ (o : Option (List ℕ)). seen_by (ms.member i).gone o) ((sound i li).beyond b lb) ∙ seen_none (ms.member i).gone)
      (λ (z : ltb 0 (ms.member i).count ≡ false).
      ap (λ (m : Meaning). seen_by m.gone (m.block b)) (members_empty ms i (ltb-false 0 (ms.member i).count z)))
      (cases_Bool (ltb 0 (ms.member i).count))

  -- a look is refused exactly where the member is gone or the block is unreadable
  pub look_tells : is_some (on_slot ms i b (λ m. look_refusal m b)) ≡ not (is_some (seen_by (members_of ms i).gone ((members_of ms i).block b)))
  look_tells =
      ⊎_elim
      (λ (e : ltb i ms.size ≡ true).
      ⊎_elim
      (λ (l : ltb b (ms.member i).count ≡ true).
      let lb = ltb-true b (ms.member i).count l in
      let h = members_here ms i (ltb-true i ms.size e) (omega arith) in
      ap is_some (cond-true _ _ _ e ∙ cond-true _ _ _ l)
      ∙ some_by (ms.member i).gone ((ms.member i).block b) ((ms.member i).gone_origin b) ((ms.member i).unreadable_origin b)
      ∙ ap (λ (m : Meaning). not (is_some (seen_by m.gone (m.block b)))) (sym h))
      (λ (l : ltb b (ms.member i).count ≡ false).
      let n : seen_by (members_of ms i).gone ((members_of ms i).block b) ≡ None = nothing_beyond (ltb-true i ms.size e) (ltb-false b (ms.member i).count l) in
      ap is_some (cond-true _ _ _ e ∙ cond-false _ _ _ l) ∙ sym (ap (λ (o : Option (List ℕ)). not (is_some o)) n))
      (cases_Bool (ltb b (ms.member i).count)))
      (λ (e : ltb i ms.size ≡ false).
      let h = members_beyond ms i (ltb-false i ms.size e) in
      ap is_some (cond-false _ _ _ e) ∙ ap (λ (m : Meaning). not (is_some (seen_by m.gone (m.block b)))) (sym h))
      (cases_Bool (ltb i ms.size))

-- a look at block 0 tells whether the member is gone
pub gone_tells : (ms : Slots) (i : ℕ) → refused_with 1 (on_slot ms i 0 (λ m. look_refusal m 0)) ≡ (members_of ms i).gone
gone_tells ms i =
    ⊎_elim
    (λ (e : ltb i ms.size ≡ true).
    ⊎_elim
    (λ (l : ltb 0 (ms.member i).count ≡ true).
    let h = members_here ms i (ltb-true i ms.size e) (ltb-true 0 (ms.member i).count l) in
    ap (refused_with 1) (cond-true _ _ _ e ∙ cond-true _ _ _ l)
    ∙ gone_by (ms.member i).gone ((ms.member i).block 0) ((ms.member i).gone_origin 0) ((ms.member i).unreadable_origin 0)
    ∙ ap (λ (m : Meaning). m.gone) (sym h))
    (λ (l : ltb 0 (ms.member i).count ≡ false).
    ap (refused_with 1) (cond-true _ _ _ e ∙ cond-false _ _ _ l) ∙ ap (λ (m : Meaning). m.gone) (sym (members_empty ms i (ltb-false 0 (ms.member i).count l))))
    (cases_Bool (ltb 0 (ms.member i).count)))
    (λ (e : ltb i ms.size ≡ false).
    ap (refused_with 1) (cond-false _ _ _ e) ∙ ap (λ (m : Meaning). m.gone) (sym (members_beyond ms i (ltb-false i ms.size e))))
    (cases_Bool (ltb i ms.size))

-- ---- a column's status, by whether its block could be read
gone_status : (r g b : Bool) (o : Option (List ℕ)) → r ≡ is_some (seen_by g o) → r ≡ false → g ≡ true → st.Gone ≡ status_by g b o
gone_status r true b o e f h = refl
gone_status r false b o e f h = absurd (false≢true h)

present_status : (r g b : Bool) (o : Option (List ℕ)) → r ≡ is_some (seen_by g o) → (r ≡ false → g ≡ false) → cond b (cond r st.Current st.Unreadable) st.Behind ≡ status_by g b o
present_status true true b o e h = absurd (true≢false e)
present_status false true b o e h = absurd (true≢false (h refl))
present_status r false true o e h = ap (λ (x : Bool). cond x st.Current st.Unreadable) e
present_status r false false o e h = refl

module _ (ms : Slots) (F : Frontiers) (s i : ℕ) (r : Bool) (e : r ≡ is_some (seen_by (members_of ms i).gone ((members_of ms i).block s))) where
  pub told_gone : r ≡ false → (members_of ms i).gone ≡ true → st.Gone ≡ status (members_of ms) F s i
  told_gone f h = gone_status r (members_of ms i).gone (ltb s (F i)) ((members_of ms i).block s) e f h ∙ sym (status_is (members_of ms) F s i)

  pub told_present : (b : Bool) → b ≡ ltb s (F i) → (r ≡ false → (members_of ms i).gone ≡ false) → cond b (cond r st.Current st.Unreadable) st.Behind ≡ status (members_of ms) F s i
  told_present b q h =
      ap (λ (x : Bool). cond x (cond r st.Current st.Unreadable) st.Behind) q
      ∙ present_status r (members_of ms i).gone (ltb s (F i)) ((members_of ms i).block s) e h ∙ sym (status_is (members_of ms) F s i)

-- what a look that was taken, or refused, tells
pub seen_told : (ms : Slots) (sound : (i : ℕ) → i < ms.size → Sound (ms.member i)) (i b : ℕ) (r : Result Unit BankFault) (ok : Bool)
    → bank_refusal r ≡ on_slot ms i b (λ m. look_refusal m b) → ok ≡ is_ok r → ok ≡ is_some (seen_by (members_of ms i).gone ((members_of ms i).block b))
seen_told ms sound i b r ok e q = q ∙ ok_is r ∙ ap (λ (o : Option Refusal). not (is_some o)) e ∙ ap not (look_tells ms sound i b) ∙ not_not (is_some (seen_by (members_of ms i).gone ((members_of ms i).block b)))
  where
    not_not : (b : Bool) → not (not b) ≡ b
    not_not true = refl
    not_not false = refl

-- ---- a read of a block below the frontier
-- what is held is what can be seen
below_held : (ms : Slots) (F : Frontiers) (s i : ℕ) → ltb s (F i) ≡ true → held (members_of ms) F s i ≡ seen_by (members_of ms i).gone ((members_of ms i).block s)
below_held ms F s i e = held_is (members_of ms) F s i ∙ shown_below (members_of ms i).gone (ltb s (F i)) ((members_of ms i).block s) e
  where
    shown_below : (g b : Bool) (o : Option (List ℕ)) → b ≡ true → shown g b o ≡ seen_by g o
    shown_below true b o e = refl
    shown_below false true o e = refl
    shown_below false false o e = absurd (false≢true e)

pub behind_held : (ms : Slots) (F : Frontiers) (s i : ℕ) → ltb s (F i) ≡ false → held (members_of ms) F s i ≡ None
behind_held ms F s i e = held_is (members_of ms) F s i ∙ shown_behind (members_of ms i).gone (ltb s (F i)) ((members_of ms i).block s) e
  where
    shown_behind : (g b : Bool) (o : Option (List ℕ)) → b ≡ false → shown g b o ≡ None
    shown_behind true b o e = refl
    shown_behind false true o e = absurd (true≢false e)
    shown_behind false false o e = refl

read_is_look : (m : Meaning) (b n : ℕ) → n ≡ block_size → read_refusal m b n ≡ look_refusal m b
read_is_look m b n e = cond-true _ _ _ (eq-eqb n block_size e)

slot_read_is_look : (ms : Slots) (i b n : ℕ) → n ≡ block_size → on_slot ms i b (λ m. read_refusal m b n) ≡ on_slot ms i b (λ m. look_refusal m b)
slot_read_is_look ms i b n e = ap (λ (o : Option Refusal). cond (ltb i ms.size) o (Some (no_slot b))) (read_is_look (ms.member i) b n e)

handed_by : (g l : Bool) (o : Option (List ℕ)) (x y : Origin) (z : Refusal) (old : List ℕ)
    → cond (is_some (cond l (cond g (Some (raised Gone x)) (cond (is_some o) None (Some (raised Unreadable y)))) (Some z))) old (unwrap_or o old)
    ≡ or_else (cond l (seen_by g o) None) old
handed_by g false o x y z old = refl
handed_by true true o x y z old = refl
handed_by false true None x y z old = refl
handed_by false true (Some v) x y z old = refl

module _ (ms : Slots) (sound : (i : ℕ) → i < ms.size → Sound (ms.member i)) (i s : ℕ) (old : List ℕ) (sized : length old ≡ block_size) where
  -- what a read leaves is what can be seen, or what the buffer held
  handed_is : slot_handed ms i s old ≡ or_else (seen_by (members_of ms i).gone ((members_of ms i).block s)) old
  handed_is =
      ⊎_elim
      (λ (e : ltb i ms.size ≡ true).
      let m = ms.member i in
      cond-true _ _ _ e
      ∙ ap (λ (o : Option Refusal). cond (is_some o) old (unwrap_or (m.block s) old)) (read_is_look m s (length old) sized)
      ∙ handed_by m.gone (ltb s m.count) (m.block s) (m.gone_origin s) (m.unreadable_origin s) _ old
      ∙ ap (λ (o : Option (List ℕ)). or_else o old) (here (ltb-true i ms.size e)))
      (λ (e : ltb i ms.size ≡ false).
      cond-false _ _ _ e ∙ ap (λ (m : Meaning). or_else (seen_by m.gone (m.block s)) old) (sym (members_beyond ms i (ltb-false i ms.size e))))
      (cases_Bool (ltb i ms.size))
    where
      here : i < ms.size → cond (ltb s (ms.member i).count) (seen_by (ms.member i).gone ((ms.member i).block s)) None ≡ seen_by (members_of ms i).gone ((members_of ms i).block s)
      here li =
          ⊎_elim
          (λ (l : ltb s (ms.member i).count ≡ true).
          let lb = ltb-true s (ms.member i).count l in
          cond-true _ _ _ l ∙ ap (λ (m : Meaning). seen_by m.gone (m.block s)) (sym (members_here ms i li (omega arith))))
          (λ (l : ltb s (ms.member i).count ≡ false).
          cond-false _ _ _ l ∙ sym (nothing_beyond ms sound i s li (ltb-false s (ms.member i).count l)))
          (cases_Bool (ltb s (ms.member i).count))

  module _ (F : Frontiers) (below : ltb s (F i) ≡ true) (new : List ℕ) (r : Result Unit BankFault) (ok : Bool) (answered : bank_refusal r ≡ on_slot ms i s (λ m. read_refusal m s (length old))) (is : ok ≡ is_ok r) (left : new ≡ slot_handed ms i s old) where
    pub load_current : ok ≡ is_some (held (members_of ms) F s i)
    load_current = seen_told ms sound i s r ok (answered ∙ slot_read_is_look ms i s (length old) sized) is ∙ ap is_some (sym (below_held ms F s i below))

    pub load_after : new ≡ or_else (held (members_of ms) F s i) old
    load_after = left ∙ handed_is ∙ ap (λ (o : Option (List ℕ)). or_else o old) (sym (below_held ms F s i below))
