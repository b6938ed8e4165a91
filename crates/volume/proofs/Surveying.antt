-- What is missing of a stripe, column by column, and what is lost, slot by slot.
use Rattle.std.proofs.Common.{◌≡◌, ℕ, zero, suc, ◌+◌, ◌*◌, ◌%◌, ◌^◌, ◌<◌, ◌≤◌, Bool, true, false, cond, not, List, [], ◌∷◌, length, is_some, Option, sym, refl, ap, ◌∙◌, ap₂, add-zero, add_assoc, pow-suc, arith, pow_mono, pow-add}
use Rattle.std.proofs.lemmas.Bool.{cond_both}
use Rattle.parity.specs.Stripe.{gaps, missing}
use Rattle.parity.proofs.Gaps.{gaps_none, gaps_more, missing_more}
use Rattle.recovery.specs.declared.loss.Lost.{Lost}
use Rattle.recovery.specs.declared.loss.Lost.TheVariants.{Nothing}
use Rattle.recovery.specs.Losses.{listed, noted}
use Rattle.contents.specs.declared.Loss.{Loss}
use Rattle.contents.specs.declared.Status.{Status}
use Rattle.contents.specs.contracts.Status.{the_type}
use denote.Enum.Bare.{sameb}
use mir.Val.{bool_byte}
use Rattle.std.proofs.Math.Nat.{one-mul, mod-eq_of_lt}
use Rattle.contents.specs.declared.Status.TheVariants.{Current, Gone, Behind, Unreadable}
use Rattle.contents.specs.Columns.{Members, Frontiers, status, is_current, is_gone, is_behind, is_unreadable, mask, loss_of}
use Rattle.contents.proofs.Masks.{loss_more}
use Rattle.volume.specs.Masks.{Room, with_status}

-- ---- columns
pub current_eq : (x : Status) → sameb the_type x Current ≡ is_current x
current_eq Current = refl
current_eq Gone = refl
current_eq Behind = refl
current_eq Unreadable = refl

pub absent_is : (b : Bool) → bool_byte (not b) ≡ cond b 0 1
absent_is true = refl
absent_is false = refl

-- what is told of the first t columns
pub record Told (cols : ℕ → Option (List ℕ)) (t : ℕ) (x : Lost) (n : ℕ) : Type 0 where
  pub lost : x ≡ noted (gaps cols t)
  pub count : n ≡ missing cols t
  pub low : n ≤ t

pub told_none : (cols : ℕ → Option (List ℕ)) → Told cols 0 Nothing 0
told_none cols = record { lost = sym (ap noted (gaps_none cols)); count = sym (ap length (gaps_none cols)); low = omega arith }

noted_more : (t : ℕ) (l : List ℕ) → noted (t ∷ listed (noted l)) ≡ noted (t ∷ l)
noted_more t [] = refl
noted_more t (i ∷ []) = refl
noted_more t (i ∷ (j ∷ l)) = refl

noted_cond : (b : Bool) (t : ℕ) (l : List ℕ) → cond b (noted l) (noted (t ∷ listed (noted l))) ≡ noted (cond b l (t ∷ l))
noted_cond true t l = refl
noted_cond false t l = noted_more t l

one_more : (b : Bool) (n t : ℕ) → n ≤ t → n + cond b 0 1 ≤ t + 1
one_more true n t h = omega arith
one_more false n t h = omega arith

pub told_more : (cols : ℕ → Option (List ℕ)) (t : ℕ) (lost : Lost) (n : ℕ) (here : Bool) (lost' : Lost) (m : ℕ) → Told cols t lost n
    → here ≡ is_some (cols t) → lost' ≡ cond here lost (noted (t ∷ listed lost)) → m ≡ cond here 0 1 → Told cols (t + 1) lost' (n + m)
told_more cols t lost n here lost' m h e el em = record {
  lost =
      el ∙ ap (λ (x : Lost). cond here x (noted (t ∷ listed x))) h.lost ∙ noted_cond here t (gaps cols t)
      ∙ ap noted (ap (λ (b : Bool). cond b (gaps cols t) (t ∷ gaps cols t)) e ∙ sym (gaps_more cols t));
  count = ap₂ (λ (x y : ℕ). x + y) h.count (em ∙ ap (λ (b : Bool). cond b 0 1) e) ∙ sym (missing_more cols t);
  low = rw em (one_more here n t h.low);
}

-- two columns more
pub told_all : (cols : ℕ → Option (List ℕ)) (k n : ℕ) (p q : Bool) (a b : ℕ) → n ≡ missing cols k → p ≡ is_some (cols k) → q ≡ is_some (cols (k + 1))
    → a ≡ cond p 0 1 → b ≡ cond q 0 1 → n + (a + b) ≡ missing cols (k + 2)
told_all cols k n p q a b e ep eq ea eb =
    sym (add_assoc n a b)
    ∙ ap₂ (λ (x y : ℕ). x + y) (ap₂ (λ (x y : ℕ). x + y) e (ea ∙ ap (λ (x : Bool). cond x 0 1) ep) ∙ sym (missing_more cols k)) (eb ∙ ap (λ (x : Bool). cond x 0 1) eq)
    ∙ sym (missing_more cols (k + 1)) ∙ ap (λ (x : ℕ). missing cols x) (add_assoc k 1 1)

pub at_most_one : (b : Bool) (m : ℕ) → m ≡ cond b 0 1 → m ≤ 1
at_most_one true m e = omega arith
at_most_one false m e = omega arith

-- ---- masks
pub bit_more : (n b c : ℕ) → b ≡ 2 ^ n → c ≡ b * 2 → c ≡ 2 ^ (n + 1)
bit_more n b c e f = f ∙ ap (λ (x : ℕ). x * 2) e ∙ sym (pow-add 2 n 1)

mask_low : (p : ℕ → Bool) (n : ℕ) → mask p n < 2 ^ n
unfolding mask
mask_low p zero = omega arith
mask_low p (suc n) =
    let r = mask_low p n in
    let q : 2 ^ (suc n) ≡ 2 ^ n * 2 = pow-suc 2 n in
    cond_both (p n) (2 ^ n) 0 (λ x. mask p n + x < 2 ^ (suc n)) (λ _. omega arith) (λ _. omega arith)

bit_low : (n : ℕ) → n < 18 → 2 ^ n ≤ 131072
bit_low n h = let k : n ≤ 17 = omega arith in pow_mono k

pub bit_room : (n b : ℕ) → n < 18 → b ≡ 2 ^ n → b ≤ 131072
bit_room n b h e = omega (arith, bit_low n h)

pub bit_is : (n : ℕ) → n < 18 → (1 * 2 ^ n) % 4294967296 ≡ 2 ^ n
bit_is n h = let l = bit_low n h in let e : 1 * 2 ^ n ≡ 2 ^ n = one-mul (2 ^ n) in rw e (mod-eq_of_lt (omega arith))

pub loss_room : (M : Members) (F : Frontiers) (n s b : ℕ) (l : Loss) → l ≡ loss_of M F n s → n < 18 → b ≡ 2 ^ n → Room l b
unfolding loss_of
loss_room M F n s b l e h q =
    let x = bit_low n h in
    let a1 = mask_low (λ i. is_gone (status M F s i)) n in
    let a2 = mask_low (λ i. is_behind (status M F s i)) n in
    let a3 = mask_low (λ i. is_unreadable (status M F s i)) n in
    let e1 : l.gone ≡ mask (λ i. is_gone (status M F s i)) n = ap (λ (y : Loss). y.gone) e in
    let e2 : l.behind ≡ mask (λ i. is_behind (status M F s i)) n = ap (λ (y : Loss). y.behind) e in
    let e3 : l.unreadable ≡ mask (λ i. is_unreadable (status M F s i)) n = ap (λ (y : Loss). y.unreadable) e in
    record { gone = omega arith; behind = omega arith; unreadable = omega arith }

loss_by : (x : Status) (l : Loss) (b : ℕ) → with_status l x b ≡ record {
  stripe = l.stripe;
  gone = l.gone + cond (is_gone x) b 0;
  behind = l.behind + cond (is_behind x) b 0;
  unreadable = l.unreadable + cond (is_unreadable x) b 0;
}
loss_by Current l b = simp add-zero
loss_by Gone l b = simp add-zero
loss_by Behind l b = simp add-zero
loss_by Unreadable l b = simp add-zero

pub loss_step : (M : Members) (F : Frontiers) (n s b : ℕ) (x : Status) (l r : Loss) → x ≡ status M F s n → b ≡ 2 ^ n → l ≡ loss_of M F n s → r ≡ with_status l x b
    → r ≡ loss_of M F (n + 1) s
unfolding loss_of
loss_step M F n s b x l r ex eb el er =
    er ∙ ap (λ (y : Loss). with_status y x b) el ∙ ap (λ (y : Status). with_status (loss_of M F n s) y b) ex ∙ ap (λ (y : ℕ). with_status (loss_of M F n s) (status M F s n) y) eb
    ∙ loss_by (status M F s n) (loss_of M F n s) (2 ^ n) ∙ sym (loss_more M F n s)
