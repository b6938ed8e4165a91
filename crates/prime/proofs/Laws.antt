-- The laws of RDP and EVENODD over every odd prime.
use Rattle.std.proofs.Common.{◌≡◌, ℕ, zero, suc, ◌+◌, ◌-◌, ◌*◌, ◌%◌, ◌<◌, eqb, List, sym, ap, ◌∙◌, subst, inl, inr, mod-lt, mod-eq_of_lt, mul_comm, arith}
use mathlib.Core.Path.{fun_ext}
use native.Mathlib.Nat.{add-mod-mod, add-mod_right, mod_self, mod-mod}
use lib.Bits.{bit_xor, xor_self, xor_zero_r}
use Rattle.std.proofs.lemmas.Bool.{cases_eq, cases_Bool, eqb-true, eqb-false, cond-true, cond-false}
use Rattle.code.specs.Codes.{Inverse, Lawful, pair}
use Rattle.code.proofs.Blocks.{xor_four}
use Rattle.prime.specs.Primes.{Prime}
use Rattle.prime.specs.Rows.{cell, rows}
use Rattle.prime.specs.Diagonals.{rdp, evenodd, inverse_below, gap, unpaired, unadjusted, DiagonalCodesAreLawful}
use Rattle.prime.proofs.Mods.{add_cong, mul_cong, inverse}
use Rattle.prime.proofs.Shifts.{paired, turns}
use Rattle.prime.proofs.Columns.{Column, adjusted, pair_column, even_odd_column, single_column, single, unsingle, end_row}
use Rattle.prime.proofs.Grids.{columnwise, columnwise_linear, columnwise_inverse, rows_add}

xor_mid : (x y z : ℕ) → bit_xor (bit_xor x z) (bit_xor y z) ≡ bit_xor x y
xor_mid x y z = xor_four x z y z ∙ rw (xor_self z) (xor_zero_r (bit_xor x y))

found : (p d n e : ℕ) → e < n → (d * e) % p ≡ 1 → (d * inverse_below p d n) % p ≡ 1
found p d zero e l h = absurd (omega arith)
found p d (suc n) e l h = elim (cases_Bool (eqb ((d * n) % p) 1)) [
  | inl t ↦ rw (cond-true (eqb ((d * n) % p) 1) n (inverse_below p d n) t) (eqb-true ((d * n) % p) 1 t)
  | inr f ↦ rw (cond-false (eqb ((d * n) % p) 1) n (inverse_below p d n) f)
      (elim (cases_eq e n) [
        | inl q ↦ absurd (eqb-false ((d * n) % p) 1 f (ap (λ x. (d * x) % p) (sym q) ∙ h))
        | inr q ↦ found p d n e (omega arith) h
      ])
]

module _ (p : ℕ) (pr : Prime p) where
  pub inverse_found : (d : ℕ) → 0 < d → d < p → (d * inverse_below p d p) % p ≡ 1
  inverse_found d pos h =
      let (e, k) = inverse p pr d d (omega arith) pos h in
      found p d p (e % p) (mod-lt e (omega (arith, pr.0))) (ap (λ n. n % p) (mul_comm d (e % p)) ∙ mul_cong p (e % p) e d (mod-mod e p) ∙ ap (λ n. n % p) (mul_comm e d) ∙ k)

  module _ (u v : ℕ) (differ : u % p ≡ v % p → ⊥) where
    pub gap_reaches : (u + gap p u v) % p ≡ v % p
    gap_reaches = add-mod-mod u (v + u * (p - 1)) p ∙ ap (λ n. n % p) (omega arith) ∙ turns p pr.0 v u

    pub gap_some : 0 < gap p u v
    gap_some = elim (cases_eq (gap p u v) 0) [
      | inl z ↦ absurd (differ (ap (λ n. n % p) (omega arith) ∙ gap_reaches))
      | inr z ↦ omega arith
    ]

    pub gap_low : gap p u v < p
    gap_low = mod-lt (v + u * (p - 1)) (omega (arith, pr.0))

    gap_inverse : (gap p u v * inverse_below p (gap p u v) p) % p ≡ 1
    gap_inverse = inverse_found (gap p u v) gap_some gap_low

    shifts : Column p (paired p u v) (unpaired p u v)
    shifts = pair_column p pr.0 u v (gap p u v) (inverse_below p (gap p u v) p) gap_reaches gap_inverse

    shifts_adjusted : p % 2 ≡ 1 → Column p (λ a. adjusted p (paired p u v a)) (λ b. unpaired p u v (unadjusted p b))
    shifts_adjusted odd = even_odd_column p pr.0 u v (gap p u v) (inverse_below p (gap p u v) p) gap_reaches gap_inverse (omega arith)

  -- the shifts of two columns differ
  pub differ_pair : (i j : ℕ) → i < p → j < p → (i ≡ j → ⊥) → (p - i) % p ≡ (p - j) % p → ⊥
  differ_pair i j l m ne h = ne (sym (at_i ∙ add_cong p (p - i) (p - j) (i + j) h ∙ at_j))
    where
      at_i : j ≡ (p - i + (i + j)) % p
      at_i = sym (ap (λ n. n % p) (omega arith) ∙ add-mod_right j p ∙ mod-eq_of_lt m)

      at_j : (p - j + (i + j)) % p ≡ i
      at_j = ap (λ n. n % p) (omega arith) ∙ add-mod_right i p ∙ mod-eq_of_lt l

  -- the shift of a column below RDP's limit differs from that of P's share
  pub differ_one : (j : ℕ) → j < p - 1 → (p - j) % p ≡ 1 % p → ⊥
  differ_one j l h =
      let a : (p - j + j) % p ≡ 0 = ap (λ n. n % p) (omega arith) ∙ mod_self p in
      let b : (1 + j) % p ≡ 1 + j = mod-eq_of_lt (omega arith) in
      let c : (p - j + j) % p ≡ (1 + j) % p = add_cong p (p - j) 1 j h in
      omega arith

  module _ (w : ℕ) (wide : 0 < w) where
    -- P's share cancels in a pair
    rdp_pair_is : (i j : ℕ) (b : List ℕ) → pair (rdp p w) i j b ≡ columnwise p w (paired p (p - i) (p - j)) b
    rdp_pair_is i j b =
        rows_add p w wide (λ r t. bit_xor (X i r t) (Z r t)) (λ r t. bit_xor (X j r t) (Z r t))
        ∙ ap (rows p w) (fun_ext (λ r. fun_ext (λ t. xor_mid (X i r t) (X j r t) (Z r t))))
      where
        X : ℕ → ℕ → ℕ → ℕ
        X j r t = cell w b ((r + (p - j)) % p) t

        Z : ℕ → ℕ → ℕ
        Z r t = cell w b ((r + 1) % p) t

    evenodd_pair_is : (i j : ℕ) → i < p → j < p → (b : List ℕ) → pair (evenodd p w) i j b ≡ columnwise p w (λ a. adjusted p (paired p (p - i) (p - j) a)) b
    evenodd_pair_is i j hi hj b =
        rows_add p w wide (λ r t. bit_xor (X i r t) (E i t)) (λ r t. bit_xor (X j r t) (E j t))
        ∙ ap (rows p w) (fun_ext (λ r. fun_ext (λ t.
        xor_four (X i r t) (E i t) (X j r t) (E j t) ∙ ap (bit_xor (bit_xor (X i r t) (X j r t))) (ends t))))
      where
        X : ℕ → ℕ → ℕ → ℕ
        X j r t = cell w b ((r + (p - j)) % p) t

        E : ℕ → ℕ → ℕ
        E j t = cell w b (p - 1 - j) t

        ends : (t : ℕ) → bit_xor (cell w b (p - 1 - i) t) (cell w b (p - 1 - j) t) ≡ bit_xor (cell w b ((p - 1 + (p - i)) % p) t) (cell w b ((p - 1 + (p - j)) % p) t)
        ends t = rw (end_row p pr.0 i hi, end_row p pr.0 j hj)

    pub rdp_lawful : Lawful ((p - 1) * w) (rdp p w)
    rdp_lawful = record {
      linear = λ j l a b ha hb. columnwise_linear p w wide (paired p (p - j) 1) (unpaired p (p - j) 1) (shifts (p - j) 1 (differ_one j l)) a b (ha.long ∙ sym hb.long);
      single = λ j l. columnwise_inverse p w wide (paired p (p - j) 1) (unpaired p (p - j) 1) (shifts (p - j) 1 (differ_one j l));
      double = λ i j hi hj ne. subst (λ f. Inverse ((p - 1) * w) f ((rdp p w).unpair i j)) (sym (fun_ext (rdp_pair_is i j)))
          (columnwise_inverse p w wide (paired p (p - i) (p - j)) (unpaired p (p - i) (p - j)) (shifts (p - i) (p - j) (differ_pair i j (omega arith) (omega arith) ne)));
    }

    pub evenodd_lawful : p % 2 ≡ 1 → Lawful ((p - 1) * w) (evenodd p w)
    evenodd_lawful odd = record {
      linear = λ j l a b ha hb. columnwise_linear p w wide (single p pr.0 j l) (unsingle p pr.0 j l) (single_column p pr.0 j l) a b (ha.long ∙ sym hb.long);
      single = λ j l. columnwise_inverse p w wide (single p pr.0 j l) (unsingle p pr.0 j l) (single_column p pr.0 j l);
      double = λ i j hi hj ne. subst (λ f. Inverse ((p - 1) * w) f ((evenodd p w).unpair i j)) (sym (fun_ext (evenodd_pair_is i j hi hj)))
          (columnwise_inverse p w wide (λ a. adjusted p (paired p (p - i) (p - j) a)) (λ b. unpaired p (p - i) (p - j) (unadjusted p b))
          (shifts_adjusted (p - i) (p - j) (differ_pair i j hi hj ne) odd));
    }

pub both_lawful : DiagonalCodesAreLawful
both_lawful p w pr odd wide = (rdp_lawful p pr w wide, evenodd_lawful p pr w wide odd)
