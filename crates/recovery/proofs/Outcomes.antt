-- Calls that cannot be refused.
use Rattle.std.proofs.Common.{◌≡◌, ℕ, ◌-◌, ◌+◌, ◌<◌, ◌≤◌, Bool, true, ◌&&◌, eqb, ltb, leb, List, length, is_ok, Ok, Err, Result, sym, refl, ap, ◌∙◌, arith}
use Rattle.code.specs.declared.CodeRefusal.{CodeRefusal}
use Rattle.code.specs.declared.CodeRefusal.TheVariants.{Column, Length}
use Rattle.std.proofs.lemmas.Bool.{and_from, and_parts, eq-eqb, eqb-true, leb-true, ltb-true, lt-ltb, le-leb, cond-true}
use Rattle.code.specs.Blocks.{block_size}
use Rattle.code.specs.Answers.{number, answer, sized, on_column}
use Rattle.parity.specs.declared.Way.{Way}
use Rattle.recovery.specs.Answers.{named, on_stripe, on_way, shaped}

not_zero : (e : CodeRefusal) → number e ≡ 0 → ⊥
not_zero Column h = omega arith
not_zero Length h = omega arith

-- a refusal is not answered by 0
pub never : {U : Type 0} (r : Result U CodeRefusal) (e : CodeRefusal) → r ≡ Err e → answer r ≡ 0 → ⊥
never r e h z = not_zero e (sym (ap answer h) ∙ z)

-- what is asked of the buffers of a call, and of its column
pub good_two : (a b : List ℕ) → length a ≡ block_size → length b ≡ block_size → (sized a && sized b) ≡ true
good_two a b ha hb = and_from _ _ (eq-eqb _ _ ha) (eq-eqb _ _ hb)

pub good_three : (a b c : List ℕ) → length a ≡ block_size → length b ≡ block_size → length c ≡ block_size → (sized a && (sized b && sized c)) ≡ true
good_three a b c ha hb hc = and_from _ _ (eq-eqb _ _ ha) (good_two b c hb hc)

pub column_taken : (w j : ℕ) (good : Bool) → j < w → good ≡ true → on_column w j good ≡ 0
column_taken w j good l e = cond-true _ _ _ e ∙ cond-true _ _ _ (lt-ltb j w l)

pub stripe_taken : (w k t : ℕ) (good : Bool) → k ≤ w → t < k + 2 → good ≡ true → on_stripe w k t good ≡ 0
stripe_taken w k t good h l e = cond-true _ _ _ e ∙ cond-true _ _ _ (and_from _ _ (le-leb k w h) (lt-ltb t (k + 2) l))

pub way_taken : (w : ℕ) (v : Way) (good : Bool) → named w v ≡ true → good ≡ true → on_way w v good ≡ 0
way_taken w v good h e = cond-true _ _ _ e ∙ cond-true _ _ _ h

pub taken_ok : {U : Type 0} (r : Result U CodeRefusal) → answer r ≡ 0 → is_ok r ≡ true
taken_ok (Ok u) z = refl
taken_ok (Err e) z = absurd (not_zero e z)

-- what a stripe's lists keep to
pub record Shape (w n m t : ℕ) : Type 0 where
  pub same : n ≡ m
  pub pair : 2 ≤ n
  pub under : n - 2 ≤ w
  pub has : t < n

pub shape : (w n m t : ℕ) → shaped w n m t ≡ true → Shape w n m t
shape w n m t e =
    let a = and_parts (eqb n m) (leb 2 n && (leb (n - 2) w && ltb t n)) e in
    let b = and_parts (leb 2 n) (leb (n - 2) w && ltb t n) a.1 in
    let d = and_parts (leb (n - 2) w) (ltb t n) b.1 in
    record { same = eqb-true n m a.0; pair = leb-true 2 n b.0; under = leb-true (n - 2) w d.0; has = ltb-true t n d.1 }
