-- What fits goes on fitting over scrubs and ticks, and zeros fit after formatting.
use Rattle.std.proofs.Common.{◌≡◌, ℕ, zero, suc, ◌+◌, ◌<◌, ◌≤◌, Bool, true, false, cond, not, ◌&&◌, ltb, List, length, is_some, Some, None, Option, sym, refl, ap, ◌∙◌, subst, ⊎_elim, add-one, arith}
use Rattle.std.proofs.lemmas.Bool.{cases_Bool, cases_eq, cases_lt, and_parts, not-true, ltb-true, true≢false, false≢true}
use Rattle.code.specs.Blocks.{zeros, block_size}
use Rattle.code.proofs.Blocks.{block_zeros}
use Rattle.parity.specs.Stripe.{Holds}
use Rattle.member.specs.Meaning.{Meaning, write_refusal}
use Rattle.member.specs.Changes.{Written, Ticked}
use Rattle.contents.specs.declared.Status.{Status}
use Rattle.contents.specs.declared.Status.TheVariants.{Gone, Behind, Current, Unreadable}
use Rattle.contents.specs.Columns.{Members, Frontiers, status, held, is_current, is_unreadable, is_absent, count}
use Rattle.contents.specs.Shapes.{Shape, Valid, Roomy, data_columns, lossy, recovered_at, FitsVolume}
use Rattle.contents.specs.Answers.{scrub_takes, takes, mended, refused, absent}
use Rattle.contents.specs.Changes.{Put, Scrubbed, FormatChanges}
use Rattle.contents.specs.Theorems.{CountsKept, FitsOn, Scrubbing, Scrubs, Ticks, Formats}
use Rattle.contents.proofs.Statuses.{none_of, shown, held_is, status_current, unreadable_parts}
use Rattle.contents.proofs.Members.{written_count, written_gone, written_others, written_present, holds_as, holds_none, holds_either, held_same, held_holds, held_gone, written_holds, put_apart, put_count}
use Rattle.contents.proofs.Masks.{count_four}
use Rattle.contents.proofs.Walks.{walk_each, walk_rest}
use Rattle.contents.proofs.Fitting.{column_zeros, gives, reaches, width, gives_block, recovered_is, by_slot, from_slots}

-- what holds of each slot below n, and trivially of the others, holds of all
counts_of : (n : ℕ) (M N : Members) → ((j : ℕ) → j < n → (N j).count ≡ (M j).count) → ((j : ℕ) → n ≤ j → N j ≡ M j) → CountsKept M N
counts_of n M N f g j =
    ⊎_elim (λ (l : j < n). f j l) (λ (l : n ≤ j). ap (λ (m : Meaning). m.count) (g j l)) (cases_lt j n)

-- ---- ticks

-- what is shown after was shown before
shown_fewer : (g h below : Bool) (o p : Option (List ℕ)) → (g ≡ true → h ≡ true) → ((v : List ℕ) → p ≡ Some v → o ≡ Some v)
    → (b : List ℕ) → Holds (shown g below o) b → Holds (shown h below p) b
shown_fewer g true below o p k f b x = tt
shown_fewer true false below o p k f b x = absurd (false≢true (k refl))
shown_fewer false false false o p k f b x = tt
shown_fewer false false true o None k f b x = tt
shown_fewer false false true o (Some v) k f b x = subst (λ (y : Option (List ℕ)). Holds y b) (f v refl) x

pub ticks : Ticks
ticks V L M F room N w =
    let each = walk_each V.slots (λ _. Ticked) M N w in (
      (λ c f. record {
        blocks = f.blocks;
        fits = λ s ls. from_slots V L N F c s ls (λ j l.
            let t = each j l in
            holds_as (held N F s j) _ _ (held_is N F s j)
            (shown_fewer (M j).gone (N j).gone (ltb s (F j)) ((M j).block s) ((N j).block s) t.gone (λ v e. t.blocks s v (let r = room j l in omega arith) e) _
            (holds_as _ (held M F s j) _ (sym (held_is M F s j)) (by_slot V L M F c f s ls j l))));
      }),
      counts_of V.slots M N (λ j l. (each j l).level.count) (walk_rest V.slots (λ _. Ticked) M N w),
    )

-- ---- scrubs
module _ (V : Shape) (L : Valid V) (M : Members) (F : Frontiers) (room : Roomy V M) (b : ℕ) (N : Members) (w : Scrubbed V M F b N) where
  scrub_each : (j : ℕ) → j < V.slots → Put (is_unreadable (status M F b j)) b (recovered_at V M F b (V.back b j)) (M j) (N j)
  scrub_each = walk_each V.slots (λ i. Put (is_unreadable (status M F b i)) b (recovered_at V M F b (V.back b i))) M N w

  scrub_counts : CountsKept M N
  scrub_counts =
      counts_of V.slots M N (λ j l. put_count _ b _ (M j) (N j) (scrub_each j l))
      (walk_rest V.slots (λ i. Put (is_unreadable (status M F b i)) b (recovered_at V M F b (V.back b i))) M N w)

  -- a column that was unreadable and whose member took the write
  scrub_mends : b < V.stripes → lossy V M F b ≡ false → (c : ℕ → List ℕ) → FitsVolume V M F c → (j : ℕ) → j < V.slots → status M F b j ≡ Unreadable → takes (M j) b ≡ true
      → status N F b j ≡ Current
  scrub_mends lb p c f j l u k =
      let t = V.back b j in
      let lt : t < data_columns V + 2 = (let h = (L.placed b).column_below j l in let w = width V L (omega arith) in omega arith) in
      let is : recovered_at V M F b t ≡ gives V c b t = recovered_is V L M F c f b lb p t lt in
      let long : length (recovered_at V M F b t) ≡ block_size = ap length is ∙ (gives_block V L M F c f b lb t lt).long in
      let parts = unreadable_parts M F b j (ap is_unreadable u) in
      let none : write_refusal (M j) b block_size ≡ None = none_of _ (not-true _ k) in
      let x = ((scrub_each j l).written (ap is_unreadable u)).accepted (ap (write_refusal (M j) b) long ∙ none) in
      status_current N F b j (x.gone ∙ parts.0) (ltb-true b (F j) parts.1) (ap is_some x.here)

  scrub_fits : b < V.stripes → lossy V M F b ≡ false → FitsOn V M F N
  scrub_fits lb p c f = record {
    blocks = f.blocks;
    fits = λ s ls. from_slots V L N F c s ls (λ j l.
        let q = scrub_each j l in
        let old = by_slot V L M F c f s ls j l in
        let r = room j l in
        ⊎_elim
        (λ (e : s ≡ b). subst (λ (x : ℕ). Holds (held N F x j) (gives V c x (V.back x j))) (sym e) (anew c f lb j l))
        (λ (ne : s ≡ b → ⊥). holds_as (held N F s j) (held M F s j) _ (put_apart M N F _ b s j _ (omega arith) ne q) old)
        (cases_eq s b));
  }
    where
      anew : (c : ℕ → List ℕ) → FitsVolume V M F c → b < V.stripes → (j : ℕ) → j < V.slots → Holds (held N F b j) (gives V c b (V.back b j))
      anew c f lb j l =
          let t = V.back b j in
          let lt : t < data_columns V + 2 = (let h = (L.placed b).column_below j l in let w = width V L (omega arith) in omega arith) in
          let is : recovered_at V M F b t ≡ gives V c b t = recovered_is V L M F c f b lb p t lt in
          let q = scrub_each j l in
          ⊎_elim
          (λ (u : is_unreadable (status M F b j) ≡ true).
          subst (λ (v : List ℕ). Holds (held N F b j) v) is
          (written_holds M N F b j (recovered_at V M F b t) (let r = room j l in omega arith) (ap length is ∙ (gives_block V L M F c f b lb t lt).long) (q.written u)))
          (λ (u : is_unreadable (status M F b j) ≡ false). holds_as (held N F b j) (held M F b j) _ (held_same M N F b j (q.kept u)) (by_slot V L M F c f b lb j l))
          (cases_Bool (is_unreadable (status M F b j)))

-- a status with a test of the unreadable ones is one of four
one_of_four : (x : Status) (k : Bool)
    → cond (is_unreadable x && k) 1 0 + cond (is_unreadable x && not k) 1 0 + cond (is_absent x) 1 0 + cond (is_current x) 1 0 ≡ 1
one_of_four Current k = omega arith
one_of_four Gone k = omega arith
one_of_four Behind k = omega arith
one_of_four Unreadable true = omega arith
one_of_four Unreadable false = omega arith

scrub_accounts : (V : Shape) (M : Members) (F : Frontiers) (s : ℕ)
    → mended V M F s + refused V M F s + absent V M F s + count (λ i. is_current (status M F s i)) V.slots ≡ V.slots
scrub_accounts V M F s =
    count_four (λ i. is_unreadable (status M F s i) && takes (M i) s) (λ i. is_unreadable (status M F s i) && not (takes (M i) s)) (λ i. is_absent (status M F s i))
    (λ i. is_current (status M F s i)) (λ i. one_of_four (status M F s i) (takes (M i) s)) V.slots

pub scrubs : Scrubs
scrubs V L M F room s N h = go (scrub_takes V M F s) refl
  where
    go : (x : Bool) → scrub_takes V M F s ≡ x → Scrubbing V M F s N
    go true e =
        let w = h.taken e in
        let p = and_parts (ltb s V.stripes) (not (lossy V M F s)) e in
        let ls : s < V.stripes = ltb-true s V.stripes p.0 in
        let q : lossy V M F s ≡ false = not-true (lossy V M F s) p.1 in
        record { fits = scrub_fits V L M F room s N w ls q; accounts = scrub_accounts V M F s; counts = scrub_counts V L M F room s N w; mends = λ c f _. scrub_mends V L M F room s N w ls q c f }
    go false e =
        let same = h.refused e in
        record {
          fits = λ c f. subst (λ (A : Members). FitsVolume V A F c) (sym same) f;
          counts = λ i. ap (λ (A : Members). (A i).count) same;
          accounts = scrub_accounts V M F s;
          mends = λ c f t. absurd (true≢false (sym t ∙ e));
        }

-- ---- format

-- block s of a present member holds zeros, if anything
abbrev ZeroAt : Meaning → ℕ → Type 0
ZeroAt m s = m.gone ≡ false → Holds (m.block s) zeros

zero_here : (m : Meaning) (s : ℕ) (n : Meaning) → s < m.count → Written m s zeros n → ZeroAt n s
zero_here m s n l w g = holds_either (n.block s) zeros (written_present m s zeros n l block_zeros.long w (sym (written_gone m s zeros n w) ∙ g))

zero_kept : (m : Meaning) (b s : ℕ) (n : Meaning) → s < m.count → (s ≡ b → ⊥) → Written m b zeros n → ZeroAt m s → ZeroAt n s
zero_kept m b s n l ne w z g =
    subst (λ (o : Option (List ℕ)). Holds o zeros) (sym (written_others m b zeros n w s l ne)) (z (sym (written_gone m b zeros n w) ∙ g))

module _ (V : Shape) (M : Members) (room : Roomy V M) (N : Members) (w : FormatChanges V M N) where
  zero_each : (s : ℕ) → s < V.stripes → (j : ℕ) → j < V.slots → Written (w.at s j) s zeros (w.at (s + 1) j)
  zero_each s l = walk_each V.slots (λ _ m n. Written m s zeros n) (w.at s) (w.at (s + 1)) (w.each s l)

  counts_at : (t : ℕ) → t ≤ V.stripes → CountsKept M (w.at t)
  counts_at zero l j = ap (λ (A : Members). (A j).count) w.begins
  counts_at (suc t) l j =
      subst (λ (x : ℕ). (w.at x j).count ≡ (M j).count) (add-one t)
      (counts_of V.slots (w.at t) (w.at (t + 1)) (λ i m. written_count (w.at t i) t zeros (w.at (t + 1) i) (zero_each t (omega arith) i m))
      (walk_rest V.slots (λ _ m n. Written m t zeros n) (w.at t) (w.at (t + 1)) (w.each t (omega arith))) j
      ∙ counts_at t (omega arith) j)

  zeros_at : (t : ℕ) → t ≤ V.stripes → (j : ℕ) → j < V.slots → (s : ℕ) → s < t → ZeroAt (w.at t j) s
  zeros_at zero l j lj s ls = absurd (omega arith)
  zeros_at (suc t) l j lj s ls =
      let x = zero_each t (omega arith) j lj in
      let room-t : s < (w.at t j).count = (let r = room j lj in let k = counts_at t (omega arith) j in omega arith) in
      subst (λ (y : ℕ). ZeroAt (w.at y j) s) (add-one t)
      (⊎_elim
      (λ (e : s ≡ t). subst (λ (y : ℕ). ZeroAt (w.at (t + 1) j) y) (sym e) (zero_here (w.at t j) t (w.at (t + 1) j) (subst (λ (y : ℕ). y < (w.at t j).count) e room-t) x))
      (λ (ne : s ≡ t → ⊥). zero_kept (w.at t j) t s (w.at (t + 1) j) room-t ne x (zeros_at t (omega arith) j lj s (omega arith)))
      (cases_eq s t))

pub formats : Formats
formats V L M F room N w = (
  record {
    blocks = λ a l. block_zeros;
    fits = λ s ls. from_slots V L N F (λ _. zeros) s ls (λ j l.
        let lt : V.back s j < data_columns V + 2 = (let h = (L.placed s).column_below j l in let w = width V L (omega arith) in omega arith) in
        let z : ZeroAt (N j) s = subst (λ (A : Members). ZeroAt (A j) s) w.ends (zeros_at V M room N w V.stripes (omega arith) j l s ls) in
        subst (λ (v : List ℕ). Holds (held N F s j) v) (sym (column_zeros V.code L.lawful (data_columns V) (reaches V L) (V.back s j) lt))
        (⊎_elim
        (λ (g : (N j).gone ≡ true). holds_none (held N F s j) zeros (held_gone N N F s j g))
        (λ (g : (N j).gone ≡ false). held_holds N N F s j zeros (z g))
        (cases_Bool (N j).gone)));
  },
  subst (λ (A : Members). CountsKept M A) w.ends (counts_at V M room N w V.stripes (omega arith)),
)
