-- The maps of one column of a block (a function of the row, zero at row p − 1) that the codes are made of, and their inverses.
use Rattle.std.proofs.Common.{◌≡◌, ℕ, zero, suc, ◌+◌, ◌-◌, ◌*◌, ◌%◌, ◌^◌, ◌<◌, sym, refl, ap, ◌∙◌, inl, inr, mod-lt, mod-eq_of_lt, arith}
use native.Mathlib.Nat.{mod-add-mod, add-mod_right}
use lib.Bits.{bit_xor, xor_assoc, xor_self, xor_zero_r, xor_lt}
use Rattle.std.proofs.lemmas.Bool.{cases_eq}
use Rattle.code.proofs.Blocks.{xor_four}
use Rattle.prime.specs.Rows.{xors}
use Rattle.prime.specs.Diagonals.{solved, unadjusted}
use Rattle.prime.proofs.Xors.{xor_same_l, xors_same, xors_xor, xors_lt}
use Rattle.prime.proofs.Shifts.{paired, paired_last, paired_one, closed_in, closed_end, solved_top, solved_paired, solved_lt}

-- F is linear and looks at rows below p alone; G undoes it on the rows below p − 1
pub record Column (p : ℕ) (F G : (ℕ → ℕ) → ℕ → ℕ) : Type 0 where
  -- F looks at rows below p alone
  pub looks : (a a' : ℕ → ℕ) → ((k : ℕ) → k < p → a k ≡ a' k) → (r : ℕ) → r < p - 1 → F a r ≡ F a' r
  -- F of a ⊕ is the ⊕ of the two
  pub linear : (a b : ℕ → ℕ) (r : ℕ) → F (λ k. bit_xor (a k) (b k)) r ≡ bit_xor (F a r) (F b r)
  -- F stays within w bits
  pub small : (w : ℕ) (a : ℕ → ℕ) → ((k : ℕ) → a k < 2 ^ w) → (r : ℕ) → F a r < 2 ^ w
  -- F is one-to-one
  pub one : (a a' : ℕ → ℕ) → a (p - 1) ≡ 0 → a' (p - 1) ≡ 0 → ((r : ℕ) → r < p - 1 → F a r ≡ F a' r) → (k : ℕ) → k < p → a k ≡ a' k
  -- G leaves row p − 1 zero
  pub top : (b : ℕ → ℕ) → G b (p - 1) ≡ 0
  -- F undoes G
  pub onto : (b : ℕ → ℕ) → b (p - 1) ≡ 0 → (r : ℕ) → r < p - 1 → F (G b) r ≡ b r
  -- G stays within w bits
  pub small_back : (w : ℕ) (b : ℕ → ℕ) → ((r : ℕ) → b r < 2 ^ w) → (k : ℕ) → G b k < 2 ^ w

-- the ⊕ of an even number of the same
even_xors : (x n : ℕ) → n % 2 ≡ 0 → xors (λ _. x) n ≡ 0
even_xors x zero h = refl
even_xors x (suc zero) h = absurd (omega arith)
even_xors x (suc (suc n)) h = xor_assoc (xors (λ _. x) n) x x ∙ rw (xor_self x, xor_zero_r (xors (λ _. x) n)) (even_xors x n (omega arith))

even_add : (c : ℕ → ℕ) (x n : ℕ) → n % 2 ≡ 0 → xors (λ r. bit_xor (c r) x) n ≡ xors c n
even_add c x n h = xors_xor c (λ _. x) n ∙ rw (even_xors x n h) (xor_zero_r (xors c n))

xor_again : (a b : ℕ) → bit_xor (bit_xor a b) b ≡ a
xor_again a b = xor_assoc a b b ∙ rw (xor_self b) (xor_zero_r a)

xor_same_r : (a x y : ℕ) → bit_xor x a ≡ bit_xor y a → x ≡ y
xor_same_r a x y h = sym (xor_again x a) ∙ ap (λ n. bit_xor n a) h ∙ xor_again y a

-- each row of c with row p − 1 of c added
abbrev pub adjusted : ℕ → (ℕ → ℕ) → ℕ → ℕ
adjusted p c r = bit_xor (c r) (c (p - 1))

module _ (p : ℕ) (big : 1 < p) where
  module _ (u v d e : ℕ) (apart : (u + d) % p ≡ v % p) (inv : (d * e) % p ≡ 1) where
    paired_small : (w : ℕ) (a : ℕ → ℕ) → ((k : ℕ) → a k < 2 ^ w) → (r : ℕ) → paired p u v a r < 2 ^ w
    paired_small w a h r = xor_lt w (a ((r + u) % p)) (a ((r + v) % p)) (h ((r + u) % p)) (h ((r + v) % p))

    paired_linear : (a b : ℕ → ℕ) (r : ℕ) → paired p u v (λ k. bit_xor (a k) (b k)) r ≡ bit_xor (paired p u v a r) (paired p u v b r)
    paired_linear a b r = xor_four (a ((r + u) % p)) (b ((r + u) % p)) (a ((r + v) % p)) (b ((r + v) % p))

    paired_looks : (a a' : ℕ → ℕ) → ((k : ℕ) → k < p → a k ≡ a' k) → (r : ℕ) → paired p u v a r ≡ paired p u v a' r
    paired_looks a a' h r = rw (h ((r + u) % p) (mod-lt (r + u) (omega arith)), h ((r + v) % p) (mod-lt (r + v) (omega arith)))

    pub pair_column : Column p (paired p u v) (solved p u d e)
    pair_column = record {
      looks = λ a a' h r _. paired_looks a a' h r;
      linear = paired_linear;
      small = paired_small;
      one = λ a a' z z' h k l. paired_one p big u v d e apart inv a a' (z ∙ sym z') h k l;
      top = solved_top p big u v d e apart inv;
      onto = λ b _ r l. solved_paired p big u v d e apart inv b r (omega arith) ∙ closed_in p b r l;
      small_back = λ w b h k. solved_lt p big u v d e apart inv w b (λ r _. h r) k;
    }

    -- EVENODD's pair
    module _ (even : (p - 1) % 2 ≡ 0) where
      adjusted_one : (a a' : ℕ → ℕ) → a (p - 1) ≡ a' (p - 1) → ((r : ℕ) → r < p - 1 → adjusted p (paired p u v a) r ≡ adjusted p (paired p u v a') r) → (k : ℕ) → k < p → a k ≡ a' k
      adjusted_one a a' z h = paired_one p big u v d e apart inv a a' z (λ r l.
          xor_same_r (paired p u v a (p - 1)) (paired p u v a r) (paired p u v a' r) (h r l ∙ ap (bit_xor (paired p u v a' r)) (sym ends)))
        where
          all : (a : ℕ → ℕ) → xors (adjusted p (paired p u v a)) (p - 1) ≡ paired p u v a (p - 1)
          all a = even_add (paired p u v a) (paired p u v a (p - 1)) (p - 1) even ∙ sym (paired_last p big u v a)

          ends : paired p u v a (p - 1) ≡ paired p u v a' (p - 1)
          ends = sym (all a) ∙ xors_same (adjusted p (paired p u v a)) (adjusted p (paired p u v a')) (p - 1) h ∙ all a'

      adjusted_onto : (b : ℕ → ℕ) (r : ℕ) → r < p - 1 → adjusted p (paired p u v (solved p u d e (unadjusted p b))) r ≡ b r
      adjusted_onto b r l = rw (here, end) (xor_again (b r) (xors b (p - 1)))
        where
          here : paired p u v (solved p u d e (unadjusted p b)) r ≡ unadjusted p b r
          here = solved_paired p big u v d e apart inv (unadjusted p b) r (omega arith) ∙ closed_in p (unadjusted p b) r l

          end : paired p u v (solved p u d e (unadjusted p b)) (p - 1) ≡ xors b (p - 1)
          end = solved_paired p big u v d e apart inv (unadjusted p b) (p - 1) (omega arith) ∙ closed_end p (unadjusted p b)
              ∙ even_add b (xors b (p - 1)) (p - 1) even

      pub even_odd_column : Column p (λ a. adjusted p (paired p u v a)) (λ b. solved p u d e (unadjusted p b))
      even_odd_column = record {
        looks = λ a a' h r _. rw (paired_looks a a' h r, paired_looks a a' h (p - 1));
        linear = λ a b r. rw (paired_linear a b r, paired_linear a b (p - 1)) (xor_four (paired p u v a r) (paired p u v b r) (paired p u v a (p - 1)) (paired p u v b (p - 1)));
        small = λ w a h r. xor_lt w (paired p u v a r) (paired p u v a (p - 1)) (paired_small w a h r) (paired_small w a h (p - 1));
        one = λ a a' z z' h k l. adjusted_one a a' (z ∙ sym z') h k l;
        top = λ b. solved_top p big u v d e apart inv (unadjusted p b);
        onto = λ b _. adjusted_onto b;
        small_back = λ w b h k. solved_lt p big u v d e apart inv w (unadjusted p b) (λ r _. xor_lt w (b r) (xors b (p - 1)) (h r) (xors_lt w b (p - 1) (λ i _. h i))) k;
      }

  -- EVENODD's mixing j
  module _ (j : ℕ) (low : j < p) where
    forth : (r : ℕ) → r < p → ((r + (p - j)) % p + j) % p ≡ r
    forth r l = mod-add-mod (r + (p - j)) p j ∙ ap (λ n. n % p) (omega arith) ∙ add-mod_right r p ∙ mod-eq_of_lt l

    back : (k : ℕ) → k < p → ((k + j) % p + (p - j)) % p ≡ k
    back k l = mod-add-mod (k + j) p (p - j) ∙ ap (λ n. n % p) (omega arith) ∙ add-mod_right k p ∙ mod-eq_of_lt l

    abbrev pub single : (ℕ → ℕ) → ℕ → ℕ
    single a r = bit_xor (a ((r + (p - j)) % p)) (a (p - 1 - j))

    abbrev pub unsingle : (ℕ → ℕ) → ℕ → ℕ
    unsingle b k = bit_xor (b ((k + j) % p)) (b ((p - 1 + j) % p))

    pub end_row : (p - 1 + (p - j)) % p ≡ p - 1 - j
    end_row = ap (λ n. n % p) (omega arith) ∙ add-mod_right (p - 1 - j) p ∙ mod-eq_of_lt (omega arith)

    single_end : (a a' : ℕ → ℕ) → a (p - 1) ≡ a' (p - 1) → ((r : ℕ) → r < p - 1 → single a r ≡ single a' r) → a (p - 1 - j) ≡ a' (p - 1 - j)
    single_end a a' z h = elim (cases_eq j 0) [
      | inl q ↦ let same : p - 1 - j ≡ p - 1 = omega arith in rw same z
      | inr q ↦
          let at : (j - 1 + (p - j)) % p ≡ p - 1 = ap (λ n. n % p) (omega arith) ∙ mod-eq_of_lt (omega arith) in
          xor_same_l (a (p - 1)) (a (p - 1 - j)) (a' (p - 1 - j)) ((rw at at (h (j - 1) (omega arith))) ∙ ap (λ x. bit_xor x (a' (p - 1 - j))) (sym z))
    ]

    single_one : (a a' : ℕ → ℕ) → a (p - 1) ≡ a' (p - 1) → ((r : ℕ) → r < p - 1 → single a r ≡ single a' r) → (k : ℕ) → k < p → a k ≡ a' k
    single_one a a' z h k l = elim (cases_eq ((k + j) % p) (p - 1)) [
      | inl q ↦ rw (sym (back k l) ∙ ap (λ n. (n + (p - j)) % p) q ∙ end_row) (single_end a a' z h)
      | inr q ↦
          let in-range : (k + j) % p < p - 1 = omega (arith, mod-lt (k + j) {m = p} (omega arith)) in
          xor_same_r (a (p - 1 - j)) (a k) (a' k) ((rw (back k l) at (h ((k + j) % p) in-range)) ∙ ap (bit_xor (a' k)) (sym (single_end a a' z h)))
    ]

    single_onto : (b : ℕ → ℕ) → b (p - 1) ≡ 0 → (r : ℕ) → r < p - 1 → single (unsingle b) r ≡ b r
    single_onto b z r l =
        let at : (p - 1 - j + j) % p ≡ p - 1 = ap (λ n. n % p) (omega arith) ∙ mod-eq_of_lt (omega arith) in
        rw (forth r (omega arith), at, z) (xor_again (b r) (b ((p - 1 + j) % p)))

    pub single_column : Column p single unsingle
    single_column = record {
      looks = λ a a' h r _. rw (h ((r + (p - j)) % p) (mod-lt (r + (p - j)) (omega arith)), h (p - 1 - j) (omega arith));
      linear = λ a b r. xor_four (a ((r + (p - j)) % p)) (b ((r + (p - j)) % p)) (a (p - 1 - j)) (b (p - 1 - j));
      small = λ w a h r. xor_lt w (a ((r + (p - j)) % p)) (a (p - 1 - j)) (h ((r + (p - j)) % p)) (h (p - 1 - j));
      one = λ a a' z z' h k l. single_one a a' (z ∙ sym z') h k l;
      top = λ b. xor_self (b ((p - 1 + j) % p));
      onto = single_onto;
      small_back = λ w b h k. xor_lt w (b ((k + j) % p)) (b ((p - 1 + j) % p)) (h ((k + j) % p)) (h ((p - 1 + j) % p));
    }
