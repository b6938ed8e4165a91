-- The images of a shelf: where they lie, what they hold, and that a change of one leaves the others.
use Rattle.std.specs.Prelude.{◌≡◌, ℕ, ◌+◌, ◌-◌, ◌*◌, ◌/◌, ◌^◌, ◌<◌, ◌≤◌, min, Bool, true, false, cond, List, ◌++◌, length, take, drop, is_some, Some, None, Option, ◌==◌, ◌≢◌, nat_lt, slice_index, slice_range, refl}
use Rattle.std.proofs.Common.{sym, ap, subst, ◌∙◌, ⊎_elim, arith, mul-le-mul_right, suc-mul, mul_assoc, mul_comm, le-div_iff_mul-le, div-lt_iff_lt-mul, length-take, length-drop, take-append-drop}
use Rattle.std.proofs.Math.Nat.{mul-div-le}
use borrow.Rule.Slice.PartMut.{put_mid, same_len_mid}
use Rattle.std.proofs.lemmas.Bool.{cond-true, cond-false, lt-ltb, le-ltb, eq-eqb, cases_order, cases_lt}
use Rattle.std.proofs.lemmas.Slice.{between_is, between-put_mid, take-put_mid_below, drop-put_mid}
use Rattle.code.specs.Blocks.{Bytes, block_size}
use Rattle.member.specs.declared.Cause.TheVariants.{NoBlock}
use Rattle.member.specs.Faults.{Refusal, raised}
use Rattle.member.specs.Meaning.{Meaning, most_blocks, read_refusal, write_refusal}
use Rattle.member.specs.Changes.{Written, Ticked, Renewed}
use Rattle.member.specs.Runs.{bottom_origin, cut, pasted, image_meaning, image_wrote, image_count}
use Rattle.member.specs.RunsLemmas.{read_ok, handed_ok, wrote_ok, image_room, image_writes, image_lawful, length_wrote, low_wrote, low_take, low_drop, low_append}
use Rattle.bank.specs.Slots.{Slots, no_slot, on_slot, slot_handed}
use Rattle.bank.specs.Changes.{Changed, SlotWritten, Lawful}
use Rattle.shelf.specs.Shelves.{Shelved, shelved, shelf_sound, span, part, with_part, shelf_meaning, shelf_wrote, Placed, Found}

-- ---- where the images lie
step : (k i e : ℕ) → k < i → k * e + e ≤ i * e
step k i e lt = subst (λ x. x ≤ i * e) (suc-mul k e) (mul-le-mul_right e lt)

pub room : (xs : List ℕ) (n i : ℕ) → i < n → i * span xs n + span xs n ≤ length xs
room xs n i lt =
    let q = (length xs / 512) / n in
    let a : i * (q * 512) + q * 512 ≤ n * (q * 512) = step i n (q * 512) lt in
    let e : n * (q * 512) ≡ n * q * 512 = sym (mul_assoc n q 512) in
    let b : n * q ≤ length xs / 512 = mul-div-le (length xs / 512) n in
    omega (arith, a, e, b)

pub part_length : (xs : List ℕ) (n i : ℕ) → i < n → length (part xs n i) ≡ span xs n
part_length xs n i lt = let r = room xs n i lt in simp (length-take, length-drop) (omega (arith, r))

pub part_count : (xs : List ℕ) (n i : ℕ) → i < n → (image_meaning (part xs n i)).count ≡ min most_blocks ((length xs / 512) / n)
part_count xs n i lt = ap (λ x. min most_blocks (x / 512)) (part_length xs n i lt) ∙ omega arith

-- whether block b is below the n-th part of m blocks, by a product that stops at the largest number
pub below_share : (m n b p : ℕ) → 0 < n → m < 2 ^ 64 - 1 → p ≡ min (n * (b + 1)) (2 ^ 64 - 1) → p ≤ m → b < m / n
below_share m n b p some low stops fits =
    let e : n * (b + 1) ≡ (b + 1) * n = mul_comm n (b + 1) in
    let q : b + 1 ≤ m / n = (le-div_iff_mul-le {k = n} some).1 (omega (arith, e, stops, fits, low)) in
    omega (arith, q)

pub beyond_share : (m n b p : ℕ) → 0 < n → p ≡ min (n * (b + 1)) (2 ^ 64 - 1) → m < p → m / n ≤ b
beyond_share m n b p some stops over =
    let e : n * (b + 1) ≡ (b + 1) * n = mul_comm n (b + 1) in
    let q : m / n < b + 1 = (div-lt_iff_lt-mul {k = n} some).1 (omega (arith, e, stops, over)) in
    omega (arith, q)

module _ (xs : List ℕ) (n i : ℕ) (lt : i < n) (ys : List ℕ) (ly : length ys ≡ length (part xs n i)) where
  pub length_with : length (with_part xs n i ys) ≡ length xs
  length_with = same_len_mid (i * span xs n) (span xs n) xs ys ly

  at_part : (k : ℕ) → part (with_part xs n i ys) n k ≡ take (span xs n) (drop (k * span xs n) (with_part xs n i ys))
  at_part k = ap (λ l. take (((l / 512) / n) * 512) (drop (k * (((l / 512) / n) * 512)) (with_part xs n i ys))) length_with

  pub part_here : part (with_part xs n i ys) n i ≡ ys
  part_here =
      let r = room xs n i lt in
      let e : span xs n ≡ (i * span xs n + span xs n) - i * span xs n = omega arith in
      at_part i
      ∙ ap (λ m. take m (drop (i * span xs n) (with_part xs n i ys))) e
      ∙ between-put_mid (i * span xs n) (span xs n) xs ys (i * span xs n + span xs n) (omega (arith, r)) (ly ∙ part_length xs n i lt ∙ e)

  until : (k : ℕ) (zs : List ℕ) → take (span xs n) (drop (k * span xs n) zs) ≡ drop (k * span xs n) (take (k * span xs n + span xs n) zs)
  until k zs =
      let e : span xs n ≡ (k * span xs n + span xs n) - k * span xs n = omega arith in
      ap (λ m. take m (drop (k * span xs n) zs)) e ∙ between_is zs (k * span xs n) (k * span xs n + span xs n)

  pub part_other : (k : ℕ) → (k ≢ i) → part (with_part xs n i ys) n k ≡ part xs n k
  part_other k ne =
      let r = room xs n i lt in
      at_part k
      ∙ ⊎_elim (λ (e : k ≡ i). absurd (ne e))
      (⊎_elim
      (λ (l : k < i). let s = step k i (span xs n) l in
      until k (with_part xs n i ys)
      ∙ ap (drop (k * span xs n)) (take-put_mid_below (i * span xs n) (span xs n) xs ys (k * span xs n + span xs n) s (omega (arith, r)))
      ∙ sym (until k xs))
      (λ (l : i < k). let s = step i k (span xs n) l in
      ap (take (span xs n)) (drop-put_mid (i * span xs n) (span xs n) xs ys (k * span xs n) s (omega (arith, r)) (ly ∙ part_length xs n i lt))))
      (cases_order k i)

  -- the image in one slot changed as R says
  pub shelf_changed : (R : Meaning → Meaning → Type 0) → R (image_meaning (part xs n i)) (image_meaning ys)
      → Changed R (shelf_meaning (shelved xs n)) i (shelf_meaning (shelved (with_part xs n i ys) n))
  shelf_changed R h = record {
    size = refl;
    here = λ _. subst (λ x. R (image_meaning (part xs n i)) (image_meaning x)) (sym part_here) h;
    others = λ k ne. ap image_meaning (part_other k ne);
    beyond = λ le. absurd (omega arith);
  }

-- ---- bytes
low_part : (xs : List ℕ) (n i : ℕ) → ((k : ℕ) → slice_index xs k < 256) → (k : ℕ) → slice_index (part xs n i) k < 256
low_part xs n i h = low_take (span xs n) (drop (i * span xs n) xs) (low_drop (i * span xs n) xs h)

low_with : (xs : List ℕ) (n i : ℕ) (ys : List ℕ) → ((k : ℕ) → slice_index xs k < 256) → ((k : ℕ) → slice_index ys k < 256)
    → (k : ℕ) → slice_index (with_part xs n i ys) k < 256
low_with xs n i ys h g =
    low_append (take (i * span xs n) xs) (ys ++ drop (span xs n) (drop (i * span xs n) xs)) (low_take (i * span xs n) xs h)
    (low_append ys (drop (span xs n) (drop (i * span xs n) xs)) g (low_drop (span xs n) (drop (i * span xs n) xs) (low_drop (i * span xs n) xs h)))

-- ---- the laws
sound_part : (s : Shelved) → shelf_sound s → (i : ℕ) → Bytes (length (part s.bytes s.images i)) (part s.bytes s.images i)
sound_part s h i = record { long = refl; bytes = low_part s.bytes s.images i h.bytes }

module _ (R : Meaning → Meaning → Type 0) (s : Shelved) (i : ℕ) where
  pub nothing_changed : R (image_meaning (part s.bytes s.images i)) (image_meaning (part s.bytes s.images i))
      → Changed R (shelf_meaning s) i (shelf_meaning s)
  nothing_changed h = record { size = refl; here = λ _. h; others = λ k ne. refl; beyond = λ le. refl }

  beyond_changed : s.images ≤ i → Changed R (shelf_meaning s) i (shelf_meaning s)
  beyond_changed le = record { size = refl; here = λ lt. absurd (omega arith); others = λ k ne. refl; beyond = λ _. refl }

module _ (s : Shelved) (i b : ℕ) (v : List ℕ) where
  pub length_image : length (image_wrote (part s.bytes s.images i) b v) ≡ length (part s.bytes s.images i)
  length_image =
      length_wrote (image_count (part s.bytes s.images i)) (part s.bytes s.images i) (image_room (part s.bytes s.images i)) b v

  pub wrote_here : i < s.images
      → shelf_wrote s i b v ≡ shelved (with_part s.bytes s.images i (image_wrote (part s.bytes s.images i) b v)) s.images
  wrote_here lt = cond-true _ _ _ (lt-ltb i s.images lt)

  pub wrote_beyond : s.images ≤ i → shelf_wrote s i b v ≡ s
  wrote_beyond le = cond-false _ _ _ (le-ltb i s.images le)

  pub shelf_writes : SlotWritten (shelf_meaning s) i b v (shelf_meaning (shelf_wrote s i b v))
  shelf_writes =
      ⊎_elim
      (λ (lt : i < s.images). subst (λ t. SlotWritten (shelf_meaning s) i b v (shelf_meaning t)) (sym (wrote_here lt))
      (shelf_changed s.bytes s.images i lt _ length_image (λ m n. Written m b v n) (image_writes (part s.bytes s.images i) b v)))
      (λ (le : s.images ≤ i). subst (λ t. SlotWritten (shelf_meaning s) i b v (shelf_meaning t)) (sym (wrote_beyond le))
      (beyond_changed (λ m n. Written m b v n) s i le))
      (cases_lt i s.images)

  pub wrote_low : shelf_sound s → Bytes (length v) v → (k : ℕ) → slice_index (shelf_wrote s i b v).bytes k < 256
  wrote_low h g k =
      ⊎_elim
      (λ (lt : i < s.images). subst (λ t. slice_index t.bytes k < 256) (sym (wrote_here lt))
      (low_with s.bytes s.images i _ h.bytes
      (low_wrote (image_count (part s.bytes s.images i)) (part s.bytes s.images i) (image_room (part s.bytes s.images i)) b v
      (low_part s.bytes s.images i h.bytes) g.bytes)
      k))
      (λ (le : s.images ≤ i). subst (λ t. slice_index t.bytes k < 256) (sym (wrote_beyond le)) (h.bytes k))
      (cases_lt i s.images)

pub shelf_lawful : Lawful shelf_sound shelf_meaning (λ s i b n. s) shelf_wrote (λ s i. s) (λ s i. s)
shelf_lawful = record {
  means = λ s h i lt. image_lawful.means (part s.bytes s.images i) (sound_part s h i);
  sees = λ s i b n h. refl;
  writes = λ s i b v h. shelf_writes s i b v;
  ticks = λ s i h. nothing_changed Ticked s i (image_lawful.ticks (part s.bytes s.images i) (sound_part s h i));
  renews = λ s i h. nothing_changed Renewed s i (image_lawful.renews (part s.bytes s.images i) (sound_part s h i));
  seen_sound = λ s i b n h. h;
  wrote_sound = λ s i b v h g. record { long = refl; bytes = wrote_low s i b v h g };
  ticked_sound = λ s i h. h;
  renewed_sound = λ s i h. h;
}

-- ---- how a call on block b of slot i, with a buffer of m bytes, is answered
module _ (xs : List ℕ) (n i b m : ℕ) (lt : i < n) (sized : m ≡ block_size) where
  pub block_found : b < (image_meaning (part xs n i)).count
      → on_slot (shelf_meaning (shelved xs n)) i b (λ x. read_refusal x b m) ≡ None
  block_found low = cond-true _ _ _ (lt-ltb i n lt) ∙ read_ok (image_count (part xs n i)) (part xs n i) b low m sized

  pub block_beyond : (image_meaning (part xs n i)).count ≤ b
      → on_slot (shelf_meaning (shelved xs n)) i b (λ x. read_refusal x b m) ≡ Some (raised NoBlock (bottom_origin b))
  block_beyond high =
      cond-true _ _ _ (lt-ltb i n lt)
      ∙ cond-true _ _ _ (eq-eqb m block_size sized)
      ∙ cond-false _ _ _ (le-ltb b (image_count (part xs n i)) high)

-- ---- reads and writes by what they are refused with
same_refusal : (sized there : Bool) (x : List ℕ) (y z w : Refusal)
    → cond sized (cond there (cond (is_some (cond there (Some x) None)) None (Some y)) (Some z)) (Some w) ≡ cond sized (cond there None (Some z)) (Some w)
same_refusal true true x y z w = refl
same_refusal true false x y z w = refl
same_refusal false there x y z w = refl

-- a shelf's write is refused as a read is
pub read_as_write : (s : Shelved) (i b n : ℕ)
    → on_slot (shelf_meaning s) i b (λ m. read_refusal m b n) ≡ on_slot (shelf_meaning s) i b (λ m. write_refusal m b n)
read_as_write s i b n =
    let p = part s.bytes s.images i in
    ap (λ r. cond (nat_lt i s.images) r (Some (no_slot b))) (same_refusal (n == block_size) (nat_lt b (image_count p)) (cut p b) _ _ _)

refused_old : (there : Bool) (r : Option Refusal) (d f : Refusal) (new old : List ℕ) → cond there r (Some d) ≡ Some f
    → old ≡ cond there (cond (is_some r) old new) old
refused_old true (Some r) d f new old e = refl
refused_old true None d f new old e = let z : ◌≡◌ {A = ℕ} 0 1 = cc in absurd (omega arith)
refused_old false r d f new old e = refl

-- a refused read leaves the buffer
pub refused_handed : (ms : Slots) (i b : ℕ) (old : List ℕ) (f : Refusal) → on_slot ms i b (λ m. read_refusal m b (length old)) ≡ Some f
    → old ≡ slot_handed ms i b old
refused_handed ms i b old f e = refused_old (nat_lt i ms.size) (read_refusal (ms.member i) b (length old)) (no_slot b) f _ old e

-- a buffer with an image put back as it was
pub same_part : (xs : List ℕ) (n i : ℕ) → with_part xs n i (part xs n i) ≡ xs
same_part xs n i =
    ap (λ z. take (i * span xs n) xs ++ z) (take-append-drop (span xs n) (drop (i * span xs n) xs)) ∙ take-append-drop (i * span xs n) xs

refused_same : (here sized there : Bool) (z w d f : Refusal) (s : Shelved) (put : List ℕ → Shelved) (new old : List ℕ)
    → cond here (cond sized (cond there None (Some z)) (Some w)) (Some d) ≡ Some f → put old ≡ s
    → s ≡ cond here (put (cond sized (cond there new old) old)) s
refused_same true true true z w d f s put new old e same = let y : ◌≡◌ {A = ℕ} 0 1 = cc in absurd (omega arith)
refused_same true true false z w d f s put new old e same = sym same
refused_same true false there z w d f s put new old e same = sym same
refused_same false sized there z w d f s put new old e same = refl

-- a refused write leaves the shelf
pub refused_wrote : (s : Shelved) (i b : ℕ) (v : List ℕ) (f : Refusal)
    → on_slot (shelf_meaning s) i b (λ m. write_refusal m b (length v)) ≡ Some f → s ≡ shelf_wrote s i b v
refused_wrote s i b v f e =
    let p = part s.bytes s.images i in
    refused_same (nat_lt i s.images) (length v == block_size) (nat_lt b (image_count p)) _ _ (no_slot b) f s
    (λ ys. shelved (with_part s.bytes s.images i ys) s.images) (pasted p b v) p e
    (ap (λ xs. shelved xs s.images) (same_part s.bytes s.images i))

-- ---- an image as it is lent
pub lent_is : (xs zs : List ℕ) (n i a e : ℕ) → Placed xs n i a e → zs ≡ xs → slice_range zs a e ≡ part xs n i
lent_is xs zs n i a e at same =
    let width : e - a ≡ span xs n = omega (arith, at.to) in
    ap (λ ys. take (e - a) (drop a ys)) same ∙ ap (λ w. take w (drop a xs)) width ∙ ap (λ k. take (span xs n) (drop k xs)) at.from

-- ---- an image that was found, as a block of it is handed out or put back
module _ (xs : List ℕ) (n i b m a e : ℕ) (at : Found xs n i b m a e) where
  placed : Placed xs n i a e
  placed = record { slot = at.slot; from = at.from; to = at.to; within = at.within }

  lent : slice_range xs a e ≡ part xs n i
  lent = lent_is xs xs n i a e placed refl

  pub lent_room : b * 512 + 512 ≤ length (slice_range xs a e)
  lent_room = omega (arith, ap length lent, part_length xs n i at.slot, at.block)

  pub back_is : (ys : List ℕ) → put_mid a (e - a) xs ys ≡ with_part xs n i ys
  back_is ys =
      let width : e - a ≡ span xs n = omega (arith, at.to) in
      ap (λ w. put_mid a w xs ys) width ∙ ap (λ k. put_mid k (span xs n) xs ys) at.from

  pub handed_found : (old : List ℕ) → length old ≡ m → cut (slice_range xs a e) b ≡ slot_handed (shelf_meaning (shelved xs n)) i b old
  handed_found old long =
      ap (λ p. cut p b) lent
      ∙ sym (cond-true _ _ _ (lt-ltb i n at.slot) ∙ handed_ok (image_count (part xs n i)) (part xs n i) b at.low old (long ∙ at.sized))

  pub wrote_found : (v : List ℕ) → length v ≡ m
      → shelved (put_mid a (e - a) xs (pasted (slice_range xs a e) b v)) n ≡ shelf_wrote (shelved xs n) i b v
  wrote_found v long =
      ap (λ ys. shelved ys n)
      (back_is _
      ∙ ap (with_part xs n i)
      (ap (λ p. pasted p b v) lent ∙ sym (wrote_ok (image_count (part xs n i)) (part xs n i) b at.low v (long ∙ at.sized))))
      ∙ sym (wrote_here (shelved xs n) i b v at.slot)
