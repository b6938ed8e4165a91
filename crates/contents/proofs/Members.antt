-- What a write, or its absence, makes of a member's column.
use Rattle.std.proofs.Common.{◌≡◌, ℕ, ◌<◌, Bool, true, false, cond, ltb, ◌⊎◌, List, length, Some, None, Option, sym, refl, ap, ◌∙◌, subst, ap₂, inl, inr, ⊎_elim}
use Rattle.std.proofs.lemmas.Bool.{cond-true, cond-false, lt-ltb, eq-eqb, cases_Bool, cases_eq}
use Rattle.code.specs.Blocks.{block_size}
use Rattle.parity.specs.Stripe.{Holds}
use Rattle.member.specs.Faults.{Refusal}
use Rattle.member.specs.Meaning.{Meaning, write_refusal, put_refusal}
use Rattle.member.specs.Changes.{Taken, Spoiled, Written}
use Rattle.contents.specs.Columns.{Members, Frontiers, held}
use Rattle.contents.specs.Changes.{Put, due}
use Rattle.contents.proofs.Statuses.{shown, shown_holds, held_is}

-- ---- a write, by what it is refused with

-- nothing is changed, or the block is taken or spoiled
pub written_ways : (m : Meaning) (b : ℕ) (v : List ℕ) (n : Meaning) → Written m b v n → (n ≡ m) ⊎ (Taken m b v n ⊎ Spoiled m b n)
written_ways m b v n w = go (write_refusal m b (length v)) refl
  where
    go : (o : Option Refusal) → write_refusal m b (length v) ≡ o → (n ≡ m) ⊎ (Taken m b v n ⊎ Spoiled m b n)
    go None e = inr (inl (w.accepted e))
    go (Some f) e = ⊎_elim (λ (c : f.cause ≡ 3). inr (inr (w.unwritable f e c))) (λ (c : f.cause ≡ 3 → ⊥). inl (w.refused f e c)) (cases_eq f.cause 3)

pub written_count : (m : Meaning) (b : ℕ) (v : List ℕ) (n : Meaning) → Written m b v n → n.count ≡ m.count
written_count m b v n w =
    ⊎_elim (λ (e : n ≡ m). ap (λ (x : Meaning). x.count) e)
    (⊎_elim (λ (t : Taken m b v n). t.level.count) (λ (t : Spoiled m b n). t.level.count))
    (written_ways m b v n w)

pub written_gone : (m : Meaning) (b : ℕ) (v : List ℕ) (n : Meaning) → Written m b v n → n.gone ≡ m.gone
written_gone m b v n w =
    ⊎_elim (λ (e : n ≡ m). ap (λ (x : Meaning). x.gone) e)
    (⊎_elim (λ (t : Taken m b v n). t.gone) (λ (t : Spoiled m b n). t.gone))
    (written_ways m b v n w)

pub written_others : (m : Meaning) (b : ℕ) (v : List ℕ) (n : Meaning) → Written m b v n → (u : ℕ) → u < m.count → (u ≡ b → ⊥) → n.block u ≡ m.block u
written_others m b v n w u l ne =
    ⊎_elim (λ (e : n ≡ m). ap (λ (x : Meaning). x.block u) e)
    (⊎_elim (λ (t : Taken m b v n). (t.others u l ne).block) (λ (t : Spoiled m b n). (t.others u l ne).block))
    (written_ways m b v n w)

-- a block written to a block that there is
module _ (m : Meaning) (b : ℕ) (v : List ℕ) (n : Meaning) (l : b < m.count) (long : length v ≡ block_size) where
  pub write_refusal_is : write_refusal m b (length v) ≡ put_refusal m b
  write_refusal_is = cond-true _ _ _ (eq-eqb (length v) block_size long) ∙ cond-true _ _ _ (lt-ltb b m.count l)

  -- a present one holds v there, or the block is unreadable
  pub written_present : Written m b v n → m.gone ≡ false → (n.block b ≡ Some v) ⊎ (n.block b ≡ None)
  written_present w g =
      ⊎_elim
      (λ (t : m.writable b ≡ true). inl (w.accepted (write_refusal_is ∙ cond-false _ _ _ g ∙ cond-true _ _ _ t)).here)
      (λ (t : m.writable b ≡ false). inr (w.unwritable _ (write_refusal_is ∙ cond-false _ _ _ g ∙ cond-false _ _ _ t) refl).here)
      (cases_Bool (m.writable b))

-- ---- columns
pub holds_as : (o p : Option (List ℕ)) (v : List ℕ) → o ≡ p → Holds p v → Holds o v
holds_as o p v e h = subst (λ (x : Option (List ℕ)). Holds x v) (sym e) h

pub holds_none : (o : Option (List ℕ)) (v : List ℕ) → o ≡ None → Holds o v
holds_none o v e = holds_as o None v e tt

pub holds_either : (o : Option (List ℕ)) (v : List ℕ) → (o ≡ Some v) ⊎ (o ≡ None) → Holds o v
holds_either o v h = ⊎_elim (λ (e : o ≡ Some v). holds_as o (Some v) v e refl) (λ (e : o ≡ None). holds_none o v e) h

module _ (M N : Members) (F : Frontiers) (s i : ℕ) where
  pub held_same : N i ≡ M i → held N F s i ≡ held M F s i
  held_same e = held_is N F s i ∙ ap (λ (m : Meaning). shown m.gone (ltb s (F i)) (m.block s)) e ∙ sym (held_is M F s i)

  pub held_by : (N i).gone ≡ (M i).gone → (N i).block s ≡ (M i).block s → held N F s i ≡ held M F s i
  held_by g e = held_is N F s i ∙ ap₂ (λ (x : Bool) (o : Option (List ℕ)). shown x (ltb s (F i)) o) g e ∙ sym (held_is M F s i)

  -- a column whose block holds v, if anything
  pub held_holds : (v : List ℕ) → Holds ((N i).block s) v → Holds (held N F s i) v
  held_holds v h = holds_as (held N F s i) _ v (held_is N F s i) (shown_holds (N i).gone (ltb s (F i)) ((N i).block s) v h)

  pub held_gone : (N i).gone ≡ true → held N F s i ≡ None
  held_gone g = held_is N F s i ∙ cond-true _ _ _ g

  -- v was written to the column
  pub written_holds : (v : List ℕ) → s < (M i).count → length v ≡ block_size → Written (M i) s v (N i) → Holds (held N F s i) v
  written_holds v l long w =
      ⊎_elim
      (λ (g : (M i).gone ≡ true). holds_none _ v (held_gone (written_gone (M i) s v (N i) w ∙ g)))
      (λ (g : (M i).gone ≡ false). held_holds v (holds_either ((N i).block s) v (written_present (M i) s v (N i) l long w g)))
      (cases_Bool (M i).gone)

  -- v was written where it is due: the column holds v or is missing
  pub due_holds : (v : List ℕ) → s < (M i).count → length v ≡ block_size → Put (due M F s i) s v (M i) (N i) → Holds (held N F s i) v
  due_holds v l long p =
      ⊎_elim
      (λ (d : due M F s i ≡ true). written_holds v l long (p.written d))
      (λ (d : due M F s i ≡ false). holds_none _ v (held_same (p.kept d) ∙ held_is M F s i ∙ not_due (M i).gone (ltb s (F i)) ((M i).block s) d))
      (cases_Bool (due M F s i))
    where
      not_due : (g b : Bool) (o : Option (List ℕ)) → cond g false b ≡ false → shown g b o ≡ None
      not_due true b o e = refl
      not_due false b o e = cond-false _ _ _ e

-- the columns of other stripes are kept
pub put_apart : (M N : Members) (F : Frontiers) (d : Bool) (s u i : ℕ) (v : List ℕ) → u < (M i).count → (u ≡ s → ⊥) → Put d s v (M i) (N i)
    → held N F u i ≡ held M F u i
put_apart M N F d s u i v l ne p =
    ⊎_elim
    (λ (e : d ≡ true).
    let w = p.written e in
    held_by M N F u i (written_gone (M i) s v (N i) w) (written_others (M i) s v (N i) w u l ne))
    (λ (e : d ≡ false). held_same M N F u i (p.kept e))
    (cases_Bool d)

pub put_count : (d : Bool) (s : ℕ) (v : List ℕ) (m n : Meaning) → Put d s v m n → n.count ≡ m.count
put_count d s v m n p =
    ⊎_elim
    (λ (e : d ≡ true). written_count m s v n (p.written e))
    (λ (e : d ≡ false). ap (λ (x : Meaning). x.count) (p.kept e))
    (cases_Bool d)
