-- The ways of a call on a member, for layers: with a good buffer and number the member's own tests are past.
use Rattle.std.specs.Prelude.{◌≡◌, ℕ, ◌<◌, true, false, cond, ltb, List, length, is_some, Some, None, ◌==◌, ◌≢◌, nat_eq, nat_lt, refl}
use Rattle.std.proofs.Common.{sym, ap, subst, ◌∙◌, ⊎_elim, arith}
use Rattle.std.specs.Option.{unwrap_or}
use Rattle.std.proofs.lemmas.Bool.{cond-true, cond-false, lt-ltb, eq-eqb, eqb-true, ltb-true, cases_Bool}
use Rattle.member.specs.Faults.{Refusal}
use Rattle.member.specs.Meaning.{Meaning, look_refusal, read_refusal, write_refusal, get_refusal, put_refusal, handed, checked}
use Rattle.member.specs.Changes.{Taken, Spoiled, Written}

pub none≢some : (f : Refusal) → None ≢ Some f
none≢some f e = let z : ◌≡◌ {A = ℕ} 0 1 = cc in omega arith

pub same_some : (f g : Refusal) → Some f ≡ Some g → f ≡ g
same_some f g e = cc

-- ---- what is left to refuse with a good buffer and number
module _ (m : Meaning) (b : ℕ) (there : b < m.count) where
  pub good_look : look_refusal m b ≡ get_refusal m b
  good_look = cond-true _ _ _ (lt-ltb b m.count there)

  pub good_read : (n : ℕ) → n ≡ 512 → read_refusal m b n ≡ get_refusal m b
  good_read n e = cond-true _ _ _ (eq-eqb n 512 e) ∙ good_look

  pub good_write : (n : ℕ) → n ≡ 512 → write_refusal m b n ≡ put_refusal m b
  good_write n e = cond-true _ _ _ (eq-eqb n 512 e) ∙ cond-true _ _ _ (lt-ltb b m.count there)

  pub good_handed : (old : List ℕ) → length old ≡ 512 → handed m b old ≡ cond (is_some (get_refusal m b)) old (unwrap_or (m.block b) old)
  good_handed old e = ap (λ r. cond (is_some r) old (unwrap_or (m.block b) old)) (good_read (length old) e)

  pub good_checked : {S : Type 0} (n : ℕ) (new old : S) → n ≡ 512 → checked m b n new old ≡ new
  good_checked n new old e = cond-true _ _ _ (eq-eqb n 512 e) ∙ cond-true _ _ _ (lt-ltb b m.count there)

-- ---- the three ways of a write of a good buffer to a block that there is
pub data Outcome (m : Meaning) (b : ℕ) (v : List ℕ) (n : Meaning) : Type 0 where
  gone_way : m.gone ≡ true → n ≡ m → Outcome m b v n
  taken_way : m.gone ≡ false → m.writable b ≡ true → Taken m b v n → Outcome m b v n
  spoiled_way : m.gone ≡ false → m.writable b ≡ false → Spoiled m b n → Outcome m b v n

module _ (m : Meaning) (b : ℕ) (v : List ℕ) (n : Meaning) where
  pub outcome : length v ≡ 512 → b < m.count → Written m b v n → Outcome m b v n
  outcome sized there h =
      let good = good_write m b there (length v) sized in
      ⊎_elim
      (λ (e : m.gone ≡ true). gone_way e (h.refused _ (good ∙ cond-true _ _ _ e) (λ z. omega arith)))
      (λ (e : m.gone ≡ false).
      ⊎_elim
      (λ (w : m.writable b ≡ true). taken_way e w (h.accepted (good ∙ cond-false _ _ _ e ∙ cond-true _ _ _ w)))
      (λ (w : m.writable b ≡ false). spoiled_way e w (h.unwritable _ (good ∙ cond-false _ _ _ e ∙ cond-false _ _ _ w) refl))
      (cases_Bool (m.writable b)))
      (cases_Bool m.gone)

  -- back again, with a good buffer and number
  pub good_written : length v ≡ 512 → b < m.count → Outcome m b v n → Written m b v n
  good_written sized there (gone_way e same) =
      let is = good_write m b there (length v) sized ∙ cond-true _ _ _ e in
      record {
        accepted = λ q. absurd (none≢some _ (sym q ∙ is));
        unwritable = λ f q three. let z = ap (λ r. r.cause) (same_some _ f (sym is ∙ q)) in absurd (omega arith);
        refused = λ f q other. same;
      }
  good_written sized there (taken_way e w h) =
      let is = good_write m b there (length v) sized ∙ cond-false _ _ _ e ∙ cond-true _ _ _ w in
      record {
        accepted = λ q. h;
        unwritable = λ f q three. absurd (none≢some f (sym is ∙ q));
        refused = λ f q other. absurd (none≢some f (sym is ∙ q));
      }
  good_written sized there (spoiled_way e w h) =
      let is = good_write m b there (length v) sized ∙ cond-false _ _ _ e ∙ cond-false _ _ _ w in
      record {
        accepted = λ q. absurd (none≢some _ (sym q ∙ is));
        unwritable = λ f q three. h;
        refused = λ f q other. absurd (other (sym (ap (λ r. r.cause) (same_some _ f (sym is ∙ q)))));
      }

-- a bad buffer or number changes nothing
bad_written : (m : Meaning) (b : ℕ) (v : List ℕ) (f : Refusal) → write_refusal m b (length v) ≡ Some f → (f.cause ≢ 3) → Written m b v m
bad_written m b v f is other = record {
  accepted = λ q. absurd (none≢some f (sym q ∙ is));
  unwritable = λ g q three. let z = ap (λ r. r.cause) (same_some f g (sym is ∙ q)) in absurd (other (z ∙ three));
  refused = λ g q o. refl;
}

-- a kind or layer that tests buffer and number itself, and then writes by one of the three ways
pub checked_written : {S : Type 0} (mean : S → Meaning) (old new : S) (b : ℕ) (v : List ℕ)
    → (length v ≡ 512 → b < (mean old).count → Outcome (mean old) b v (mean new))
    → Written (mean old) b v (mean (checked (mean old) b (length v) new old))
checked_written mean old new b v way =
    let m = mean old in
    ⊎_elim
    (λ (e : nat_eq (length v) 512 ≡ true).
    let sized = eqb-true (length v) 512 e in
    ⊎_elim
    (λ (l : ltb b m.count ≡ true).
    let there = ltb-true b m.count l in
    subst (λ s. Written m b v (mean s)) (sym (good_checked m b there (length v) new old sized))
    (good_written m b v (mean new) sized there (way sized there)))
    (λ (l : ltb b m.count ≡ false).
    subst (λ s. Written m b v (mean s)) (sym (cond-true _ _ _ e ∙ cond-false _ _ _ l))
    (bad_written m b v _ (cond-true _ _ _ e ∙ cond-false _ _ _ l) (λ z. omega arith)))
    (cases_Bool (nat_lt b m.count)))
    (λ (e : nat_eq (length v) 512 ≡ false).
    subst (λ s. Written m b v (mean s)) (sym (cond-false _ _ _ e)) (bad_written m b v _ (cond-false _ _ _ e) (λ z. omega arith)))
    (cases_Bool (length v == 512))
