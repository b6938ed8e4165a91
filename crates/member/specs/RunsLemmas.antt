-- What a run of blocks holds, and what a write makes of it.
use Rattle.std.specs.Prelude.{◌≡◌, ℕ, zero, suc, ◌+◌, ◌-◌, ◌*◌, ◌/◌, ◌<◌, ◌≤◌, min, cond, List, [], ◌∷◌, ◌++◌, length, take, drop, Some, None, ◌==◌, ◌≢◌, nat_lt, slice_index, refl}
use Rattle.std.proofs.Common.{sym, ap, subst, ◌∙◌, ⊎_elim, arith, lit<, length-take, length-drop, length-append}
use Rattle.std.proofs.lemmas.List.{length-replicate}
use borrow.Rule.Slice.PartMut.{put_mid}
use Rattle.std.proofs.lemmas.Bool.{cond-true, cond-false, cond_both, lt-ltb, le-ltb, ltb-true, eq-eqb, eqb-true, cases_order}
use Rattle.std.proofs.lemmas.Slice.{between_is, between-put_mid, take-put_mid_below, drop-put_mid}
use Rattle.code.specs.Blocks.{Block}
use Rattle.code.proofs.Blocks.{bytes_zeros}
use Rattle.member.specs.Meaning.{Sound, most_blocks, read_refusal, write_refusal, handed}
use Rattle.member.specs.Changes.{Taken, Written, Ticked, Renewed, Lawful}
use Rattle.member.specs.Runs.{
  cut,
  pasted,
  run_meaning,
  run_wrote,
  cell_sound,
  cell_meaning,
  cell_wrote,
  cell_zeros,
  image_count,
  image_sound,
  image_meaning,
  image_wrote,
  RestKept,
}
use Rattle.member.specs.Outcomes.{taken_way, good_write, good_checked, checked_written}

-- every number of the list is a byte
abbrev pub Low : List ℕ → Type 0
Low xs = (i : ℕ) → slice_index xs i < 256

pub low_take : (n : ℕ) (xs : List ℕ) → Low xs → Low (take n xs)
low_take zero xs h i = lit< tt
low_take (suc n) [] h i = lit< tt
low_take (suc n) (x ∷ xs) h zero = h 0
low_take (suc n) (x ∷ xs) h (suc i) = low_take n xs (λ j. h (suc j)) i

pub low_drop : (n : ℕ) (xs : List ℕ) → Low xs → Low (drop n xs)
low_drop zero xs h i = h i
low_drop (suc n) [] h i = lit< tt
low_drop (suc n) (x ∷ xs) h i = low_drop n xs (λ j. h (suc j)) i

pub low_append : (xs ys : List ℕ) → Low xs → Low ys → Low (xs ++ ys)
low_append [] ys h k i = k i
low_append (x ∷ xs) ys h k zero = h 0
low_append (x ∷ xs) ys h k (suc i) = low_append xs ys (λ j. h (suc j)) k i

-- ---- one block of a run
module _ (xs : List ℕ) (b : ℕ) where
  pub cut_block : b * 512 + 512 ≤ length xs → Low xs → Block (cut xs b)
  cut_block fit h = record {
    long = simp (length-take, length-drop) (omega arith);
    bytes = low_take 512 (drop (b * 512) xs) (low_drop (b * 512) xs h);
  }

module _ (xs v : List ℕ) (b : ℕ) (lv : length v ≡ 512) (fit : b * 512 + 512 ≤ length xs) where
  pub length_pasted : length (pasted xs b v) ≡ length xs
  length_pasted = simp (length-append, length-take, length-drop) (omega arith)

  pub low_pasted : Low xs → Low v → Low (pasted xs b v)
  low_pasted h k =
      low_append (take (b * 512) xs) (v ++ drop 512 (drop (b * 512) xs)) (low_take (b * 512) xs h)
      (low_append v (drop 512 (drop (b * 512) xs)) k (low_drop 512 (drop (b * 512) xs) (low_drop (b * 512) xs h)))

  pub cut_here : cut (pasted xs b v) b ≡ v
  cut_here =
      let e : 512 ≡ (b * 512 + 512) - b * 512 = omega arith in
      ap (λ n. take n (drop (b * 512) (put_mid (b * 512) 512 xs v))) e
      ∙ between-put_mid (b * 512) 512 xs v (b * 512 + 512) (omega arith) (omega arith)

  cut_between : (ys : List ℕ) (k : ℕ) → cut ys k ≡ drop (k * 512) (take (k * 512 + 512) ys)
  cut_between ys k =
      let e : 512 ≡ (k * 512 + 512) - k * 512 = omega arith in
      ap (λ n. take n (drop (k * 512) ys)) e ∙ between_is ys (k * 512) (k * 512 + 512)

  pub cut_other : (k : ℕ) → (k ≢ b) → cut (pasted xs b v) k ≡ cut xs k
  cut_other k ne =
      ⊎_elim (λ (e : k ≡ b). absurd (ne e))
      (⊎_elim
      (λ (l : k < b). cut_between (put_mid (b * 512) 512 xs v) k
      ∙ ap (drop (k * 512)) (take-put_mid_below (b * 512) 512 xs v (k * 512 + 512) (omega arith) (omega arith)) ∙ sym (cut_between xs k))
      (λ (l : b < k). ap (take 512) (drop-put_mid (b * 512) 512 xs v (k * 512) (omega arith) (omega arith) lv)))
      (cases_order k b)

-- ---- what is answered
module _ (n : ℕ) (xs : List ℕ) (b : ℕ) (lt : b < n) where
  pub read_ok : (len : ℕ) → len ≡ 512 → read_refusal (run_meaning n xs) b len ≡ None
  read_ok len e = simp (eq-eqb len 512 e, lt-ltb b n lt)

  pub write_ok : (len : ℕ) → len ≡ 512 → write_refusal (run_meaning n xs) b len ≡ None
  write_ok len e = good_write (run_meaning n xs) b lt len e

  pub handed_ok : (old : List ℕ) → length old ≡ 512 → handed (run_meaning n xs) b old ≡ cut xs b
  handed_ok old e = simp (eq-eqb (length old) 512 e, lt-ltb b n lt)

  pub wrote_ok : (v : List ℕ) → length v ≡ 512 → run_wrote n xs b v ≡ pasted xs b v
  wrote_ok v e = good_checked (run_meaning n xs) b lt (length v) (pasted xs b v) xs e

-- ---- a write to the first n blocks of a run
module _ (n : ℕ) (xs : List ℕ) (room : n * 512 ≤ length xs) (b : ℕ) (v : List ℕ) where
  fits : b < n → b * 512 + 512 ≤ length xs
  fits lt = omega arith

  taken : length v ≡ 512 → b < n → Taken (run_meaning n xs) b v (run_meaning n (pasted xs b v))
  taken lv lt = record {
    level = record { count = refl; height = refl };
    gone = refl;
    here = cond-true _ _ _ (lt-ltb b n lt) ∙ ap Some (cut_here xs v b lv (fits lt));
    others = λ k l ne. record {
      block = ap (λ x. cond (nat_lt k n) (Some x) None) (cut_other xs v b lv (fits lt) k ne);
      gone_origin = refl;
      unreadable_origin = refl;
      unwritable_origin = refl;
    };
    costs = λ k l w. w;
  }

  pub run_writes : Written (run_meaning n xs) b v (run_meaning n (run_wrote n xs b v))
  run_writes = checked_written (run_meaning n) xs (pasted xs b v) b v (λ lv lt. taken_way refl refl (taken lv lt))

  -- what holds of the run and of the run with v in place of block b holds after the write
  wrote_both : (P : List ℕ → Type 0) → P xs → (length v ≡ 512 → b < n → P (pasted xs b v)) → P (run_wrote n xs b v)
  wrote_both P old new =
      cond_both (length v == 512) (cond (nat_lt b n) (pasted xs b v) xs) xs P
      (λ e. cond_both (nat_lt b n) (pasted xs b v) xs P (λ l. new (eqb-true (length v) 512 e) (ltb-true b n l)) (λ _. old)) (λ _. old)

  pub length_wrote : length (run_wrote n xs b v) ≡ length xs
  length_wrote = wrote_both (λ ys. length ys ≡ length xs) refl (λ lv lt. length_pasted xs v b lv (fits lt))

  pub low_wrote : Low xs → Low v → Low (run_wrote n xs b v)
  low_wrote h k = wrote_both Low h (λ lv lt. low_pasted xs v b lv (fits lt) h k)

  -- what lies beyond the first n blocks
  pub rest_wrote : drop (n * 512) (run_wrote n xs b v) ≡ drop (n * 512) xs
  rest_wrote =
      wrote_both (λ ys. drop (n * 512) ys ≡ drop (n * 512) xs) refl
      (λ lv lt. drop-put_mid (b * 512) 512 xs v (n * 512) (omega arith) (omega arith) lv)

pub run_sound : (n : ℕ) (xs : List ℕ) → n ≤ most_blocks → n * 512 ≤ length xs → Low xs → Sound (run_meaning n xs)
run_sound n xs few room low = record {
  few = few;
  low = omega arith;
  sized = λ b v.
      cond_both (nat_lt b n) (Some (cut xs b)) None (λ o. o ≡ Some v → Block v)
      (λ l e. let q : cut xs b ≡ v = cc in subst Block q (cut_block xs b (let lt = ltb-true b n l in omega arith) low))
      (λ _ e. let z : ◌≡◌ {A = ℕ} 0 1 = cc in absurd (omega arith));
  beyond = λ b l. cond-false _ _ _ (le-ltb b n l);
}

run_ticks : (n : ℕ) (xs : List ℕ) → Ticked (run_meaning n xs) (run_meaning n xs)
run_ticks n xs = record { level = record { count = refl; height = refl }; gone = λ e. e; blocks = λ k v l e. e }

run_renews : (n : ℕ) (xs ys : List ℕ) → Renewed (run_meaning n xs) (run_meaning n ys)
run_renews n xs ys = record { level = record { count = refl; height = refl }; present = refl }

-- ---- the two kinds
pub cell_room : (xs : List ℕ) → length xs ≡ 4096 → 8 * 512 ≤ length xs
cell_room xs e = omega arith

pub cell_writes : (xs : List ℕ) → length xs ≡ 4096 → (b : ℕ) (v : List ℕ) → Written (cell_meaning xs) b v (cell_meaning (cell_wrote xs b v))
cell_writes xs long b v = run_writes 8 xs (cell_room xs long) b v

pub cell_lawful : Lawful cell_sound cell_meaning (λ s b n. s) cell_wrote (λ s. s) (λ s. cell_zeros)
cell_lawful = record {
  means = λ s h. run_sound 8 s (omega arith) (cell_room s h.long) h.bytes;
  sees = λ s b n h. refl;
  writes = λ s b v h. cell_writes s h.long b v;
  ticks = λ s h. run_ticks 8 s;
  renews = λ s h. run_renews 8 s cell_zeros;
  seen_sound = λ s b n h. h;
  wrote_sound = λ s b v h k. record {
    long = length_wrote 8 s (cell_room s h.long) b v ∙ h.long;
    bytes = low_wrote 8 s (cell_room s h.long) b v h.bytes k.bytes;
  };
  ticked_sound = λ s h. h;
  renewed_sound = λ s h. record { long = length-replicate {A = ℕ} 4096 0; bytes = bytes_zeros 4096 };
}

pub image_room : (xs : List ℕ) → image_count xs * 512 ≤ length xs
image_room xs = omega arith

-- a write keeps the count
pub image_count_wrote : (xs : List ℕ) (b : ℕ) (v : List ℕ) → image_count (image_wrote xs b v) ≡ image_count xs
image_count_wrote xs b v = ap (λ k. min most_blocks (k / 512)) (length_wrote (image_count xs) xs (image_room xs) b v)

pub image_writes : (xs : List ℕ) (b : ℕ) (v : List ℕ) → Written (image_meaning xs) b v (image_meaning (image_wrote xs b v))
image_writes xs b v =
    subst (λ n. Written (image_meaning xs) b v (run_meaning n (image_wrote xs b v))) (sym (image_count_wrote xs b v))
    (run_writes (image_count xs) xs (image_room xs) b v)

pub image_lawful : Lawful image_sound image_meaning (λ s b n. s) image_wrote (λ s. s) (λ s. s)
image_lawful = record {
  means = λ s h. run_sound (image_count s) s (omega arith) (image_room s) h.bytes;
  sees = λ s b n h. refl;
  writes = λ s b v h. image_writes s b v;
  ticks = λ s h. run_ticks (image_count s) s;
  renews = λ s h. run_renews (image_count s) s s;
  seen_sound = λ s b n h. h;
  wrote_sound = λ s b v h k. record { long = refl; bytes = low_wrote (image_count s) s (image_room s) b v h.bytes k.bytes };
  ticked_sound = λ s h. h;
  renewed_sound = λ s h. h;
}

pub rest_kept : RestKept
rest_kept xs b v = rest_wrote (image_count xs) xs (image_room xs) b v
