-- The sum of two shifts of a column, b r = a (r + u) ⊕ a (r + v), rows counted modulo the prime p, u and v distinct: the walk inverts it.
use Rattle.std.proofs.Common.{◌≡◌, ℕ, zero, suc, ◌+◌, ◌-◌, ◌*◌, ◌%◌, ◌^◌, ◌<◌, ◌≤◌, ltb, sym, ap, ◌∙◌, inl, inr, add_assoc, mod-lt, mod-eq_of_lt, mul_assoc, suc-mul, mul_comm, add_comm, one-mul, mul-suc, arith}
use native.Mathlib.Nat.{mod-add-mod, add-mul-mod_self_right, add-mul-mod_self_left, mod-mod}
use lib.Bits.{bit_xor, xor_self}
use Rattle.std.proofs.lemmas.Bool.{cases_eq, cond-true, cond-false, cond_both, lt-ltb, le-ltb, ltb-true}
use Rattle.prime.specs.Rows.{xors}
use Rattle.prime.specs.Diagonals.{walk, steps, closed, solved}
use Rattle.prime.proofs.Xors.{xor_cancel, xor_same_l, xors_same, xors_xor, xors_order, xors_lt}
use Rattle.prime.proofs.Mods.{add_cong_r, mul_cong}

module _ (p : ℕ) (big : 1 < p) where
  whole : (z : ℕ) → z + z * (p - 1) ≡ z * p
  whole z = add_comm z (z * (p - 1)) ∙ sym (mul-suc z (p - 1)) ∙ ap (λ n. z * n) (omega arith)

  -- p times anything more is no change
  pub turns : (x z : ℕ) → (x + (z + z * (p - 1))) % p ≡ x % p
  turns x z = ap (λ n. (x + n) % p) (whole z) ∙ add-mul-mod_self_right x z p

  -- a walk in steps of d, which has the inverse e, meets every row once
  module _ (d e : ℕ) (inv : (d * e) % p ≡ 1) where
    times : (x : ℕ) → (x * d * e) % p ≡ x % p
    times x = ap (λ n. n % p) (mul_assoc x d e ∙ mul_comm x (d * e)) ∙ mul_cong p (d * e) 1 x (inv ∙ sym (mod-eq_of_lt big)) ∙ ap (λ n. n % p) (one-mul x)

    times' : (x : ℕ) → (x * e * d) % p ≡ x % p
    times' x = ap (λ n. n % p) (mul_assoc x e d ∙ ap (λ n. x * n) (mul_comm e d) ∙ sym (mul_assoc x d e)) ∙ times x

    module _ (c : ℕ) where
      pub walk_steps : (k : ℕ) → k < p → walk p c d (steps p c e k) ≡ k
      walk_steps k h =
          add_cong_r p c (steps p c e k * d) K (mul_cong p (steps p c e k) (K * e) d (mod-mod (K * e) p) ∙ times' K)
          ∙ ap (λ n. n % p) (omega arith) ∙ turns k c ∙ mod-eq_of_lt h
        where
          K : ℕ
          K = k + c * (p - 1)

      pub steps_walk : (m : ℕ) → m < p → steps p c e (walk p c d m) ≡ m
      steps_walk m h =
          mul_cong p (walk p c d m + c * (p - 1)) (m * d) e (mod-add-mod (c + m * d) p (c * (p - 1)) ∙ ap (λ n. n % p) (omega arith) ∙ turns (m * d) c)
          ∙ times m ∙ mod-eq_of_lt h

      walk_order : (f : ℕ → ℕ) → xors (λ i. f (walk p c d i)) p ≡ xors f p
      walk_order f = xors_order f (walk p c d) (steps p c e) p (λ i l. mod-lt (c + i * d) (omega arith)) (λ i l. mod-lt ((i + c * (p - 1)) * e) (omega arith)) steps_walk walk_steps

  pub walk_more : (c d m : ℕ) → walk p c d (suc m) ≡ (walk p c d m + d) % p
  walk_more c d m = ap (λ n. (c + n) % p) (suc-mul m d) ∙ ap (λ n. n % p) (sym (add_assoc c (m * d) d)) ∙ sym (mod-add-mod (c + m * d) p d)

  -- a shift of the indices keeps the ⊕ of all
  shift_order : (u : ℕ) (f : ℕ → ℕ) → xors (λ r. f ((r + u) % p)) p ≡ xors f p
  shift_order u f =
      xors_same (λ r. f ((r + u) % p)) (λ r. f (walk p u 1 r)) p (λ r l. ap (λ n. f (n % p)) (omega arith))
      ∙ walk_order 1 1 (mod-eq_of_lt big) u f

  xors_last : (f : ℕ → ℕ) → xors f p ≡ bit_xor (xors f (p - 1)) (f (p - 1))
  xors_last f = ap (xors f) q
    where
      q : p ≡ suc (p - 1)
      q = omega arith

xor_zero : (a b : ℕ) → bit_xor a b ≡ 0 → a ≡ b
xor_zero a b h = sym (xor_same_l a b a (h ∙ sym (xor_self a)))

-- the rows of a closed column
pub closed_in : (p : ℕ) (b : ℕ → ℕ) (r : ℕ) → r < p - 1 → closed p b r ≡ b r
closed_in p b r l = cond-true (ltb r (p - 1)) (b r) (xors b (p - 1)) (lt-ltb r (p - 1) l)

pub closed_end : (p : ℕ) (b : ℕ → ℕ) → closed p b (p - 1) ≡ xors b (p - 1)
closed_end p b = cond-false (ltb (p - 1) (p - 1)) (b (p - 1)) (xors b (p - 1)) (le-ltb (p - 1) (p - 1) (omega arith))

-- row r of the pair of shifts u, v
abbrev pub paired : ℕ → ℕ → ℕ → (ℕ → ℕ) → ℕ → ℕ
paired p u v a r = bit_xor (a ((r + u) % p)) (a ((r + v) % p))

module _ (p : ℕ) (big : 1 < p) (u v : ℕ) where
  paired_total : (a : ℕ → ℕ) → xors (paired p u v a) p ≡ 0
  paired_total a =
      xors_xor (λ r. a ((r + u) % p)) (λ r. a ((r + v) % p)) p
      ∙ rw (shift_order p big u a, shift_order p big v a) (xor_self (xors a p))

  -- the missing row
  pub paired_last : (a : ℕ → ℕ) → paired p u v a (p - 1) ≡ xors (paired p u v a) (p - 1)
  paired_last a = sym (xor_zero (xors (paired p u v a) (p - 1)) (paired p u v a (p - 1)) (sym (xors_last p big (paired p u v a)) ∙ paired_total a))

  module _ (d e : ℕ) (apart : (u + d) % p ≡ v % p) (inv : (d * e) % p ≡ 1) where
    next : (r : ℕ) → ((r + u) % p + d) % p ≡ (r + v) % p
    next r = mod-add-mod (r + u) p d ∙ ap (λ n. n % p) (add_assoc r u d) ∙ add_cong_r p r (u + d) v apart

    pub start : walk p (p - 1) d 0 ≡ p - 1
    start = ap (λ n. n % p) (omega arith) ∙ mod-eq_of_lt (omega arith)

    -- one-to-one: along the walk each row follows from the one before
    pub paired_one : (a a' : ℕ → ℕ) → a (p - 1) ≡ a' (p - 1) → ((r : ℕ) → r < p - 1 → paired p u v a r ≡ paired p u v a' r) → (k : ℕ) → k < p → a k ≡ a' k
    paired_one a a' top same k h = rw (walk_steps p big d e inv (p - 1) k h) at (along (steps p (p - 1) e k))
      where
        full : (r : ℕ) → r < p → paired p u v a r ≡ paired p u v a' r
        full r l = elim (cases_eq r (p - 1)) [
          | inl q ↦ ap (paired p u v a) q ∙ paired_last a ∙ xors_same (paired p u v a) (paired p u v a') (p - 1) same ∙ sym (paired_last a') ∙ ap (paired p u v a') (sym q)
          | inr q ↦ same r (omega arith)
        ]

        step : (k : ℕ) → k < p → a k ≡ a' k → a ((k + d) % p) ≡ a' ((k + d) % p)
        step k l known = xor_same_l (a k) (a ((k + d) % p)) (a' ((k + d) % p)) (there ∙ ap (λ x. bit_xor x (a' ((k + d) % p))) (sym known))
          where
            r : ℕ
            r = (k + u * (p - 1)) % p

            at_u : (r + u) % p ≡ k
            at_u = mod-add-mod (k + u * (p - 1)) p u ∙ ap (λ n. n % p) (omega arith) ∙ turns p big k u ∙ mod-eq_of_lt l

            at_v : (r + v) % p ≡ (k + d) % p
            at_v = sym (next r) ∙ ap (λ n. (n + d) % p) at_u

            there : bit_xor (a k) (a ((k + d) % p)) ≡ bit_xor (a' k) (a' ((k + d) % p))
            there = let f = full r (mod-lt (k + u * (p - 1)) (omega arith)) in let g = at_u in let h = at_v in cc

        along : (m : ℕ) → a (walk p (p - 1) d m) ≡ a' (walk p (p - 1) d m)
        along zero = ap a start ∙ top ∙ ap a' (sym start)
        along (suc m) = rw (walk_more p big (p - 1) d m) (step (walk p (p - 1) d m) (mod-lt (p - 1 + m * d) (omega arith)) (along m))

    -- onto: the rows that the walk adds up are a solution, since a closed column adds up to zero
    closed_total : (b : ℕ → ℕ) → xors (closed p b) p ≡ 0
    closed_total b = xors_last p big (closed p b) ∙ rw (closed_end p b, xors_same (closed p b) b (p - 1) (closed_in p b)) (xor_self (xors b (p - 1)))

    pub steps_top : steps p (p - 1) e (p - 1) ≡ 0
    steps_top = ap (steps p (p - 1) e) (sym start) ∙ steps_walk p big d e inv (p - 1) 0 (omega arith)

    pub solved_top : (b : ℕ → ℕ) → solved p u d e b (p - 1) ≡ 0
    unfolding solved
    solved_top b = ap (xors (λ i. closed p b (walk p (p - 1 + u * (p - 1)) d i))) steps_top

    module _ (b : ℕ → ℕ) where
      S : ℕ → ℕ
      S m = xors (λ i. closed p b (walk p (p - 1 + u * (p - 1)) d i)) m

      S_walk : (m : ℕ) → m ≤ p → S (steps p (p - 1) e (walk p (p - 1) d m)) ≡ S m
      unfolding S solved
      S_walk m h = elim (cases_eq m p) [
        | inl q ↦ ap (λ x. S (steps p (p - 1) e x)) (ap (walk p (p - 1) d) q ∙ add-mul-mod_self_left (p - 1) p d ∙ mod-eq_of_lt (omega arith)) ∙ solved_top b
            ∙ sym (ap S q ∙ walk_order p big d e inv (p - 1 + u * (p - 1)) (closed p b) ∙ closed_total b)
        | inr q ↦ ap S (steps_walk p big d e inv (p - 1) m (omega arith))
      ]

      pub solved_paired : (r : ℕ) → r < p → paired p u v (solved p u d e b) r ≡ closed p b r
      unfolding S solved
      solved_paired r l = ap (bit_xor (S m)) two ∙ xor_cancel (S m) (closed p b (walk p (p - 1 + u * (p - 1)) d m)) ∙ ap (closed p b) row
        where
          m : ℕ
          m = steps p (p - 1) e ((r + u) % p)

          here : walk p (p - 1) d m ≡ (r + u) % p
          here = walk_steps p big d e inv (p - 1) ((r + u) % p) (mod-lt (r + u) (omega arith))

          there : walk p (p - 1) d (suc m) ≡ (r + v) % p
          there = walk_more p big (p - 1) d m ∙ ap (λ n. (n + d) % p) here ∙ next r

          row : walk p (p - 1 + u * (p - 1)) d m ≡ r
          row = ap (λ n. n % p) (omega arith) ∙ sym (mod-add-mod (p - 1 + m * d) p (u * (p - 1))) ∙ ap (λ n. (n + u * (p - 1)) % p) here
              ∙ mod-add-mod (r + u) p (u * (p - 1)) ∙ ap (λ n. n % p) (omega arith) ∙ turns p big r u ∙ mod-eq_of_lt l

          two : S (steps p (p - 1) e ((r + v) % p)) ≡ S (suc m)
          two = ap (λ x. S (steps p (p - 1) e x)) (sym there) ∙ S_walk (suc m) (mod-lt (((r + u) % p + (p - 1) * (p - 1)) * e) (omega arith))

    pub solved_lt : (w : ℕ) (b : ℕ → ℕ) → ((r : ℕ) → r < p - 1 → b r < 2 ^ w) → (k : ℕ) → solved p u d e b k < 2 ^ w
    unfolding solved
    solved_lt w b h k = xors_lt w (λ i. closed p b (walk p (p - 1 + u * (p - 1)) d i)) (steps p (p - 1) e k) (λ i _. one (walk p (p - 1 + u * (p - 1)) d i))
      where
        one : (r : ℕ) → closed p b r < 2 ^ w
        one r = cond_both (ltb r (p - 1)) (b r) (xors b (p - 1)) (λ x. x < 2 ^ w) (λ t. h r (ltb-true r (p - 1) t)) (λ _. xors_lt w b (p - 1) h)
