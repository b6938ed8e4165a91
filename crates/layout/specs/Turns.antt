-- Turning n slots by s, and back.
use Rattle.std.specs.Prelude.{◌≡◌, ℕ, ◌+◌, ◌-◌, ◌%◌, ◌<◌, ◌≤◌, nat_lt}
use Rattle.std.proofs.Common.{sym, ap, ◌∙◌, subst, arith, mod-eq_of_lt, mod-lt}
use Rattle.std.proofs.Math.Nat.{mod-add-mod, add-mod-mod, mod-eq-sub-mod, add-mod_right}
use Rattle.std.proofs.lemmas.Bool.{cond-true, cond-false, lt-ltb, le-ltb}
use Rattle.layout.specs.Placing.{Placing, rotated, unrotated}

-- a number below twice n, brought back below n
below_once : (x n : ℕ) → x < n → x ≡ x % n
below_once x n h = sym (mod-eq_of_lt h)

below_twice : (x n : ℕ) → n ≤ x → x < n + n → x - n ≡ x % n
below_twice x n h l = sym (mod-eq-sub-mod h ∙ mod-eq_of_lt (omega arith))

module _ (n s : ℕ) where
  rotated_in : (c : ℕ) → c < n → rotated n s c ≡ (c + s % n) % n
  rotated_in c h = cond-true (nat_lt c n) ((c + s) % n) c (lt-ltb c n h) ∙ sym (add-mod-mod c s n)

  unrotated_in : (i : ℕ) → i < n → unrotated n s i ≡ (i + (n - s % n)) % n
  unrotated_in i h = cond-true (nat_lt i n) ((i + (n - s % n)) % n) i (lt-ltb i n h)

  pub slot_ahead : (c : ℕ) → c < n → c < n - s % n → c + s % n ≡ rotated n s c
  slot_ahead c h l = below_once (c + s % n) n (omega arith) ∙ sym (rotated_in c h)

  pub slot_around : (c : ℕ) → c < n → n - s % n ≤ c → c - (n - s % n) ≡ rotated n s c
  slot_around c h l =
      let turn : s % n < n = mod-lt s (omega arith) in
      let e : c - (n - s % n) ≡ c + s % n - n = omega arith in
      e ∙ below_twice (c + s % n) n (omega arith) (omega arith) ∙ sym (rotated_in c h)

  pub column_around : (i : ℕ) → i < n → i < s % n → i + (n - s % n) ≡ unrotated n s i
  column_around i h l =
      let turn : s % n < n = mod-lt s (omega arith) in
      below_once (i + (n - s % n)) n (omega arith) ∙ sym (unrotated_in i h)

  pub column_ahead : (i : ℕ) → i < n → s % n ≤ i → i - s % n ≡ unrotated n s i
  column_ahead i h l =
      let turn : s % n < n = mod-lt s (omega arith) in
      let e : i - s % n ≡ i + (n - s % n) - n = omega arith in
      e ∙ below_twice (i + (n - s % n)) n (omega arith) (omega arith) ∙ sym (unrotated_in i h)

  pub turning : Placing n (rotated n s) (unrotated n s)
  turning = record {
    slot_below = slot_below;
    column_below = column_below;
    there = λ c h.
        let turn : s % n < n = mod-lt s (omega arith) in
        unrotated_in (rotated n s c) (slot_below c h)
        ∙ ap (λ x. (x + (n - s % n)) % n) (rotated_in c h)
        ∙ mod-add-mod (c + s % n) n (n - s % n)
        ∙ ap (λ x. x % n) (omega arith)
        ∙ add-mod_right c n
        ∙ mod-eq_of_lt h;
    back = λ i h.
        let turn : s % n < n = mod-lt s (omega arith) in
        rotated_in (unrotated n s i) (column_below i h)
        ∙ ap (λ x. (x + s % n) % n) (unrotated_in i h)
        ∙ mod-add-mod (i + (n - s % n)) n (s % n)
        ∙ ap (λ x. x % n) (omega arith)
        ∙ add-mod_right i n
        ∙ mod-eq_of_lt h;
    slot_beyond = λ c h. cond-false (nat_lt c n) ((c + s) % n) c (le-ltb c n h);
    column_beyond = λ i h. cond-false (nat_lt i n) ((i + (n - s % n)) % n) i (le-ltb i n h);
  }
    where
      slot_below : (c : ℕ) → c < n → rotated n s c < n
      slot_below c h = subst (λ x. x < n) (sym (rotated_in c h)) (mod-lt (c + s % n) (omega arith))

      column_below : (i : ℕ) → i < n → unrotated n s i < n
      column_below i h = subst (λ x. x < n) (sym (unrotated_in i h)) (mod-lt (i + (n - s % n)) (omega arith))
