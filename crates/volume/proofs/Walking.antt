-- What calls on a bank, slot by slot, make of its members.
use Rattle.std.proofs.Common.{◌≡◌, ℕ, zero, suc, ◌+◌, ◌<◌, ◌≤◌, min, Bool, true, false, cond, ◌&&◌, eqb, ltb, List, [], ◌∷◌, ◌++◌, map, length, Some, None, Ok, Err, Result, sym, refl, ap, ◌∙◌, subst, ap₂, ⊎_elim, add-zero, add-one, length-append, arith}
use Rattle.std.proofs.lemmas.Bool.{cases_Bool, cases_lt, cond-true, cond-false, lt-ltb, le-ltb}
use Rattle.std.proofs.lemmas.List.Elements.{filter-append}
use Rattle.std.proofs.lemmas.List.Sums.{fold-append}
use Rattle.std.proofs.lemmas.List.{map-append}
use Rattle.std.specs.List.{filter, fold, range_with_len}
use Rattle.std.specs.Result.{IfOk, result_unwrap_or}
use Rattle.code.specs.Blocks.{block_size}
use Rattle.member.specs.Faults.{Refusal}
use Rattle.member.specs.Meaning.{Meaning, most_blocks, write_refusal}
use Rattle.member.specs.Changes.{Written, Ticked}
use Rattle.bank.specs.declared.BankFault.{BankFault}
use Rattle.bank.specs.Slots.{Slots, bank_refusal, slot_refusal}
use Rattle.bank.specs.Changes.{Changed}
use Rattle.contents.specs.Changes.{Moved}
use Rattle.contents.specs.Columns.{Members, count}
use Rattle.contents.specs.Shapes.{smallest}
use Rattle.contents.proofs.Members.{written_count}
use Rattle.volume.specs.Slots.{members_of, empty_member}
use Rattle.volume.specs.Turns.{in_turn}
use Rattle.volume.proofs.Looking.{members_here, members_beyond, members_empty}

-- a member that is the same in a bank of the same length
members_same : (ms ns : Slots) (j : ℕ) → ns.size ≡ ms.size → ns.member j ≡ ms.member j → members_of ns j ≡ members_of ms j
unfolding members_of
members_same ms ns j e f = ap₂ (λ (n : ℕ) (m : Meaning). cond (ltb j n && ltb 0 m.count) m empty_member) e f

-- a change of a slot of the bank is a move of the volume's member, where it keeps counts and an empty member may stay
module _ (R : Meaning → Meaning → Type 0) (stays : R empty_member empty_member) (counts : (m n : Meaning) → R m n → n.count ≡ m.count) where
  pub moved_of : (ms ns : Slots) (i : ℕ) → Changed R ms i ns → Moved R i (members_of ms) (members_of ns)
  moved_of ms ns i h = record { here = go; others = λ j ne. members_same ms ns j h.size (h.others j ne) }
    where
      both : (A B : Meaning) → A ≡ empty_member → B ≡ empty_member → R A B
      both A B e f = subst (λ (x : Meaning). R x B) (sym e) (subst (λ (x : Meaning). R empty_member x) (sym f) stays)

      go : R (members_of ms i) (members_of ns i)
      go =
          ⊎_elim
          (λ (l : i < ms.size).
          let r = h.here l in
          let k = counts (ms.member i) (ns.member i) r in
          let z = h.size in
          ⊎_elim
          (λ (p : 0 < (ms.member i).count).
          subst (λ (x : Meaning). R x (members_of ns i)) (sym (members_here ms i l p))
          (subst (λ (x : Meaning). R (ms.member i) x) (sym (members_here ns i (omega arith) (omega arith))) r))
          (λ (p : (ms.member i).count ≤ 0). both _ _ (members_empty ms i p) (members_empty ns i (omega arith)))
          (cases_lt 0 (ms.member i).count))
          (λ (l : ms.size ≤ i).
          let z = h.size in
          both _ _ (members_beyond ms i l) (members_beyond ns i (omega arith)))
          (cases_lt i ms.size)

pub ticked_moved : (ms ns : Slots) (i : ℕ) → Changed Ticked ms i ns → Moved Ticked i (members_of ms) (members_of ns)
ticked_moved = moved_of Ticked (record { level = record { count = refl; height = refl }; gone = λ e. e; blocks = λ k v l e. e }) (λ m n t. t.level.count)

empty_refused : (s n : ℕ) → (f : Refusal) × (write_refusal empty_member s n ≡ Some f) × (f.cause ≡ 3 → ⊥)
empty_refused s n =
    ⊎_elim
    (λ (e : eqb n block_size ≡ true). (_, cond-true _ _ _ e ∙ cond-false _ _ _ (le-ltb s 0 (omega arith)), λ (h : ◌≡◌ {A = ℕ} 4 3). omega arith))
    (λ (e : eqb n block_size ≡ false). (_, cond-false _ _ _ e, λ (h : ◌≡◌ {A = ℕ} 5 3). omega arith))
    (cases_Bool (eqb n block_size))

pub empty_written : (s : ℕ) (v : List ℕ) → Written empty_member s v empty_member
empty_written s v =
    let r = empty_refused s (length v) in
    record {
      accepted = λ e. absurd (let z : ◌≡◌ {A = ℕ} 0 1 = cc r.1 in omega arith);
      unwritable = λ f e h. absurd (r.2 (let q : r.0 ≡ f = cc r.1 in ap (λ (x : Refusal). x.cause) q ∙ h));
      refused = λ f e h. refl;
    }

pub written_moved : (s : ℕ) (v : List ℕ) (ms ns : Slots) (i : ℕ) → Changed (λ m n. Written m s v n) ms i ns → Moved (λ m n. Written m s v n) i (members_of ms) (members_of ns)
written_moved s v = moved_of (λ m n. Written m s v n) (empty_written s v) (λ m n w. written_count m s v n w)

-- the count of a slot
pub count_here : (ms : Slots) (i : ℕ) → i < ms.size → (members_of ms i).count ≡ (ms.member i).count
count_here ms i l =
    ⊎_elim
    (λ (p : 0 < (ms.member i).count). ap (λ (m : Meaning). m.count) (members_here ms i l p))
    (λ (p : (ms.member i).count ≤ 0). ap (λ (m : Meaning). m.count) (members_empty ms i p) ∙ omega arith)
    (cases_lt 0 (ms.member i).count)

pub count_beyond : (ms : Slots) (i : ℕ) → ms.size ≤ i → (members_of ms i).count ≡ 0
count_beyond ms i l = ap (λ (m : Meaning). m.count) (members_beyond ms i l)

-- what a question about a slot's count tells of the slot
pub slot_there : (i n : ℕ) (x : Refusal) → None ≡ cond (ltb i n) None (Some x) → i < n
slot_there i n x e = ⊎_elim (λ (l : i < n). l) (λ (l : n ≤ i). absurd (let q : None ≡ Some x = e ∙ cond-false _ _ _ (le-ltb i n l) in let z : ◌≡◌ {A = ℕ} 0 1 = cc in omega arith)) (cases_lt i n)

pub slot_not_there : (i n : ℕ) (x y : Refusal) → Some y ≡ cond (ltb i n) None (Some x) → n ≤ i
slot_not_there i n x y e = ⊎_elim (λ (l : i < n). absurd (let q : Some y ≡ None = e ∙ cond-true _ _ _ (lt-ltb i n l) in let z : ◌≡◌ {A = ℕ} 0 1 = cc in omega arith)) (λ (l : n ≤ i). l) (cases_lt i n)

-- what a question about a slot's count tells
pub count_told : (ms : Slots) (i : ℕ) (r : Result ℕ BankFault) → bank_refusal r ≡ slot_refusal ms i → IfOk r (λ n. n ≡ (ms.member i).count) → result_unwrap_or r 0 ≡ (members_of ms i).count
count_told ms i (Ok n) e v = v ∙ sym (count_here ms i (slot_there _ _ _ e))
count_told ms i (Err f) e v = sym (count_beyond ms i (slot_not_there _ _ _ _ e))

-- ---- numbers in a row
range_more : (a n : ℕ) → range_with_len a (suc n) ≡ range_with_len a n ++ (a + n) ∷ []
range_more a zero = ap (λ (x : ℕ). x ∷ []) (sym (add-zero a))
range_more a (suc n) = ap (λ (xs : List ℕ). a ∷ xs) (range_more (a + 1) n ∙ ap (λ (x : ℕ). range_with_len (a + 1) n ++ x ∷ []) (omega arith))

range_last : (n : ℕ) → range_with_len 0 (suc n) ≡ range_with_len 0 n ++ n ∷ []
range_last n = range_more 0 n ∙ ap (λ (x : ℕ). range_with_len 0 n ++ x ∷ []) (omega arith)

pub counted_range : (p : ℕ → Bool) (n : ℕ) → length (filter p (range_with_len 0 n)) ≡ count p n
unfolding count
counted_range p zero = refl
counted_range p (suc n) =
    ap (λ (xs : List ℕ). length (filter p xs)) (range_last n) ∙ ap length (filter-append p (range_with_len 0 n) (n ∷ []))
    ∙ length-append (filter p (range_with_len 0 n)) (filter p (n ∷ [])) ∙ ap₂ (λ (x y : ℕ). x + y) (counted_range p n) (one (p n))
  where
    one : (b : Bool) → length (cond b (n ∷ []) []) ≡ cond b 1 0
    one true = refl
    one false = refl

pub smallest_range : (M : Members) (n : ℕ) → fold min most_blocks (map (λ i. (M i).count) (range_with_len 0 n)) ≡ smallest M n
unfolding smallest
smallest_range M zero = refl
smallest_range M (suc n) =
    ap (λ (xs : List ℕ). fold min most_blocks (map (λ i. (M i).count) xs)) (range_last n)
    ∙ ap (fold min most_blocks) (map-append (λ i. (M i).count) (range_with_len 0 n) (n ∷ []))
    ∙ fold-append min most_blocks (map (λ i. (M i).count) (range_with_len 0 n)) ((M n).count ∷ []) ∙ ap (λ (x : ℕ). min x (M n).count) (smallest_range M n)

-- ---- calls in turn
pub turn_none : {S : Type 0} (f : S → ℕ → S) (s : S) → s ≡ in_turn f 0 s
unfolding in_turn
turn_none f s = refl

turn_last : {S : Type 0} (f : S → ℕ → S) (n : ℕ) (s : S) → in_turn f (n + 1) s ≡ f (in_turn f n s) n
unfolding in_turn
turn_last f n s = ap (λ (x : ℕ). in_turn f x s) (add-one n)

pub turn_more : {S : Type 0} (f : S → ℕ → S) (n : ℕ) (s t : S) → t ≡ in_turn f n s → f t n ≡ in_turn f (n + 1) s
turn_more f n s t e = ap (λ x. f x n) e ∙ sym (turn_last f n s)
