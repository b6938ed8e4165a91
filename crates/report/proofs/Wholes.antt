-- A whole stripe fits its own content, and what comes back of it is what was there.
use Rattle.std.proofs.Common.{◌≡◌, ℕ, ◌+◌, ◌-◌, ◌<◌, ◌≤◌, true, false, cond, not, ◌&&◌, ◌⊎◌, eqb, List, [], ◌∷◌, ◌++◌, length, get_or, take, drop, set, is_some, is_ok, Some, None, Ok, Err, Option, Bor, Result, ⊎_elim, sym, refl, ap, ◌∙◌, subst, inl, inr, arith, length-append, length-drop, length-take}
use Rattle.std.specs.Prelude.{option_copied}
use Rattle.std.proofs.lemmas.List.{get_or_default, get_or-set_other, get_or-set_same, get_or-take, get_or-drop, get_or_past, get_or_append_left, get_or_push, length-set}
use Rattle.std.proofs.Math.Bool.{and-false}
use Rattle.std.proofs.lemmas.Bool.{cases_eq, cases_lt, true≢false, eq-eqb, ne_eqb, cond-true, cond-false, cond_both, and_from, le-leb, lt-ltb, le-ltb}
use Rattle.code.specs.Blocks.{Block, block_size}
use Rattle.code.specs.Codes.{Coding}
use Rattle.parity.specs.Stripe.{Content, column, Fits, gaps, missing}
use Rattle.parity.proofs.Gaps.{gaps_first}
use Rattle.parity.proofs.Sums.{sum_cong}
use Rattle.parity.proofs.Columns.{kind, is_data, is_P, is_Q, column_data, column_P, column_Q}
use Rattle.recovery.specs.Answers.{stripe_answer, on_recover}
use Rattle.recovery.specs.Columns.{content, columns_of}
use Rattle.recovery.specs.declared.refusal.StripeRefusal.{StripeRefusal}
use Rattle.recovery.specs.declared.refusal.StripeRefusal.TheVariants.{Column, Length, Loss}
use Rattle.report.specs.Losses.{Whole, Made, without}

-- an answer of 0 is one that was taken
pub taken : {U : Type 0} (r : Result U StripeRefusal) → stripe_answer r ≡ 0 → is_ok r ≡ true
taken (Ok u) e = refl
taken (Err Column) e = absurd (omega arith)
taken (Err Length) e = absurd (omega arith)
taken (Err Loss) e = absurd (omega arith)

-- a column is one of two that are lost, or is there
either : (i j t : ℕ) → ((t ≡ i) ⊎ (t ≡ j)) ⊎ ((t ≡ i → ⊥) × (t ≡ j → ⊥))
either i j t = ⊎_elim (λ e. inl (inl e)) (λ a. ⊎_elim (λ e. inl (inr e)) (λ b. inr (a, b)) (cases_eq t j)) (cases_eq t i)

lost : (blocks : List (List ℕ)) (i j t : ℕ) → (t ≡ i) ⊎ (t ≡ j) → without blocks i j t ≡ None
lost blocks i j t =
    ⊎_elim
    (λ e. cond-true _ _ _ (eq-eqb t i e))
    (λ e. cond_both (eqb t i) None (cond (eqb t j) None (Some (get_or blocks t []))) (λ o. o ≡ None) (λ _. refl) (λ _. cond-true _ _ _ (eq-eqb t j e)))

kept : (blocks : List (List ℕ)) (i j t : ℕ) → (t ≡ i → ⊥) × (t ≡ j → ⊥) → without blocks i j t ≡ Some (get_or blocks t [])
kept blocks i j t n = cond-false _ _ _ (ne_eqb t i n.0) ∙ cond-false _ _ _ (ne_eqb t j n.1)

-- one more column that is there
pub one_more : (blocks : List (List ℕ)) (left : List (Option (Bor (List ℕ)))) (t : ℕ) (x : Option (Bor (List ℕ))) → t < length left → option_copied x ≡ Some (get_or blocks t [])
    → ((u : ℕ) → u < t → columns_of left u ≡ Some (get_or blocks u [])) → (u : ℕ) → u < t + 1 → columns_of (set left t x) u ≡ Some (get_or blocks u [])
one_more blocks left t x l e h u m =
    ⊎_elim
    (λ (q : u ≡ t). ap option_copied (ap (λ n. get_or (set left t x) n None) q ∙ get_or-set_same left t x None l) ∙ e ∙ ap (λ n. Some (get_or blocks n [])) (sym q))
    (λ (n : u ≡ t → ⊥). ap option_copied (get_or-set_other left t u x None n) ∙ h u (omega arith))
    (cases_eq u t)

-- a list of columns that are there, of which two are then taken away
pub taken_away : (blocks : List (List ℕ)) (left : List (Option (Bor (List ℕ)))) (i j t : ℕ) → i < length left → j < length left → columns_of left t ≡ Some (get_or blocks t [])
    → columns_of (set (set left i None) j None) t ≡ without blocks i j t
taken_away blocks left i j t li lj h =
    let first = set left i None in
    ⊎_elim
    (λ (e : t ≡ j). ap option_copied (ap (λ n. get_or (set first j None) n None) e ∙ get_or-set_same first j None None (simp length-set lj)) ∙ sym (lost blocks i j t (inr e)))
    (λ (b : t ≡ j → ⊥).
    ap option_copied (get_or-set_other first j t None None b)
    ∙ ⊎_elim
    (λ (e : t ≡ i). ap option_copied (ap (λ n. get_or first n None) e ∙ get_or-set_same left i None None li) ∙ sym (lost blocks i j t (inl e)))
    (λ (a : t ≡ i → ⊥). ap option_copied (get_or-set_other left i t None None a) ∙ h ∙ sym (kept blocks i j t (a, b)))
    (cases_eq t i))
    (cases_eq t j)

-- whatever two columns are missing, the stripe's own content fits
pub whole_fits : (C : Coding) (k i j : ℕ) (blocks : List (List ℕ)) (cols : ℕ → Option (List ℕ)) → Whole C k blocks
    → ((t : ℕ) → t < k + 2 → cols t ≡ without blocks i j t) → Fits C k (content blocks) cols
whole_fits C k i j blocks cols w h t l =
    ⊎_elim (λ e. rw (h t l ∙ lost blocks i j t e) tt) (λ n. rw (h t l ∙ kept blocks i j t n) (w.columns t l)) (either i j t)

-- at most two are missing where each missing one is i or j
two_missing : (cols : ℕ → Option (List ℕ)) (i j n : ℕ) → ((t : ℕ) → t < n → is_some (cols t) ≡ false → (t ≡ i) ⊎ (t ≡ j)) → missing cols n ≤ 2
two_missing cols i j n h = go (gaps cols n) refl
  where
    go : (g : List ℕ) → gaps cols n ≡ g → length g ≤ 2
    go [] e = omega arith
    go (a ∷ []) e = omega arith
    go (a ∷ (b ∷ [])) e = omega arith
    go (a ∷ (b ∷ (d ∷ g))) e =
        let p = gaps_first cols n a (b ∷ (d ∷ g)) e in
        let q = gaps_first cols a b (d ∷ g) p.2 in
        let r = gaps_first cols b d g q.2 in
        absurd (omega (arith, q.0, r.0, h a p.0 p.1, h b (omega (arith, p.0, q.0)) q.1, h d (omega (arith, p.0, q.0, r.0)) r.1))

pub few_missing : (blocks : List (List ℕ)) (cols : ℕ → Option (List ℕ)) (i j n : ℕ) → ((t : ℕ) → t < n → cols t ≡ without blocks i j t) → missing cols n ≤ 2
few_missing blocks cols i j n h =
    two_missing cols i j n (λ t l e. ⊎_elim (λ q. q) (λ m. absurd (true≢false (sym (ap is_some (h t l ∙ kept blocks i j t m)) ∙ e))) (either i j t))

-- what recovery is asked with: all columns but two of a whole stripe, with no more of the list than there are columns
pub record Asked (C : Coding) (blocks : List (List ℕ)) (left : List (Option (Bor (List ℕ)))) : Type 0 where
  pub long : length left ≡ length blocks
  pub fits : Fits C (length blocks - 2) (content blocks) (columns_of left)
  pub few : missing (columns_of left) (length blocks) ≤ 2

pub asked : (C : Coding) (blocks : List (List ℕ)) (left : List (Option (Bor (List ℕ)))) (i j m : ℕ) → Whole C (length blocks - 2) blocks → 2 < length blocks → m ≡ length blocks → m ≤ length left
    → ((t : ℕ) → t < length blocks → columns_of left t ≡ without blocks i j t) → Asked C blocks (take m left)
asked C blocks left i j m w two e l h =
    let n = length blocks in
    let cols : (t : ℕ) → t < n → columns_of (take m left) t ≡ without blocks i j t = λ t s. ap option_copied (get_or-take m left t None (omega arith)) ∙ h t s in
    record {
      long = simp length-take (omega arith);
      fits = whole_fits C (n - 2) i j blocks (columns_of (take m left)) w (λ t s. cols t (omega arith));
      few = few_missing blocks (columns_of (take m left)) i j n cols;
    }

-- what it then answers, and what it gives
pub not_refused : (C : Coding) (blocks : List (List ℕ)) (left : List (Option (Bor (List ℕ)))) (t : ℕ) → Whole C (length blocks - 2) blocks → 2 < length blocks → t < length blocks → Asked C blocks left
    → on_recover C.limit (length left) (length left) (columns_of left) t true ≡ 0
not_refused C blocks left t w two l a =
    rw a.long (
    cond-true _ _ _
    (and_from _ _ (eq-eqb (length blocks) (length blocks) refl)
    (and_from _ _ (le-leb 2 (length blocks) (omega arith)) (and_from _ _ (le-leb (length blocks - 2) C.limit w.limit) (lt-ltb t (length blocks) l))))
    ∙ cond-false _ _ _ (ap (λ b. not (is_some (columns_of left t)) && b) (le-ltb 2 (missing (columns_of left) (length blocks)) a.few) ∙ and-false _))

pub comes_back : (C : Coding) (blocks : List (List ℕ)) (left : List (Option (Bor (List ℕ)))) (t : ℕ) (found : List ℕ) → Whole C (length blocks - 2) blocks → 2 < length blocks → t < length blocks → Asked C blocks left
    → ((c : ℕ → List ℕ) → Content (length left - 2) c → Fits C (length left - 2) c (columns_of left) → found ≡ column C (length left - 2) c t) → found ≡ get_or blocks t []
comes_back C blocks left t found w two l a h = (rw a.long at h) (content blocks) w.sized a.fits ∙ sym (w.columns t (omega arith))

-- a column that is read at place m of the list
pub held_at : (C : Coding) (k : ℕ) (blocks : List (List ℕ)) (x : List ℕ) (m t : ℕ) → Whole C k blocks → x ≡ get_or blocks m x → m ≡ t → t < k + 2 → x ≡ column C k (content blocks) t
held_at C k blocks x m t w e q l = e ∙ ap (λ n. get_or blocks n x) q ∙ get_or_default blocks t x [] (omega (arith, w.count)) ∙ w.columns t l

-- a column is given by the data columns alone
pub column_same : (C : Coding) (k : ℕ) (c d : ℕ → List ℕ) → ((i : ℕ) → i < k → c i ≡ d i) → (t : ℕ) → t < k + 2 → column C k c t ≡ column C k d t
column_same C k c d h t l = elim (kind k t l) [
  | is_data m ↦ column_data C k c t m ∙ h t m ∙ sym (column_data C k d t m)
  | is_P e ↦ column_P C k c t e ∙ sum_cong k c d h ∙ sym (column_P C k d t e)
  | is_Q e ↦
      column_Q C k c t e ∙ sum_cong k (λ j. C.mix j (c j)) (λ j. C.mix j (d j)) (λ j m. ap (C.mix j) (h j m)) ∙ sym (column_Q C k d t e)
]

-- ---- a stripe that is made of its data and its parities
module _ (C : Coding) (given blocks : List (List ℕ)) (p q : List ℕ) (is : blocks ≡ (given ++ (p ∷ [])) ++ (q ∷ [])) where
  longer : length (given ++ (p ∷ [])) ≡ length given + 1
  longer = length-append given (p ∷ [])

  block_at : (i : ℕ) → i < length given → content blocks i ≡ content given i
  block_at i l =
      ap (λ b. get_or b i []) is
      ∙ get_or_append_left (given ++ (p ∷ [])) (q ∷ []) [] i (omega (arith, longer))
      ∙ get_or_append_left given (p ∷ []) [] i l

  block_P : get_or blocks (length given) [] ≡ p
  block_P =
      ap (λ b. get_or b (length given) []) is
      ∙ get_or_append_left (given ++ (p ∷ [])) (q ∷ []) [] (length given) (omega (arith, longer))
      ∙ get_or_push given p [] (length given) refl

  block_Q : get_or blocks (length given + 1) [] ≡ q
  block_Q = ap (λ b. get_or b (length given + 1) []) is ∙ get_or_push (given ++ (p ∷ [])) q [] (length given + 1) longer

  pub made_of : Made given blocks
  made_of = record {
    count = ap length is ∙ length-append (given ++ (p ∷ [])) (q ∷ []) ∙ ap (λ n. n + 1) longer ∙ omega arith;
    kept = block_at;
  }

  pub whole_of : (k : ℕ) → k ≡ length given → k ≤ C.limit → Content (length given) (content given) → p ≡ column C (length given) (content given) (length given)
      → q ≡ column C (length given) (content given) (length given + 1) → Whole C k blocks
  whole_of k ek h sized ep eq = rw ek (record {
    count = made_of.count;
    limit = rw ek at h;
    sized = λ i l. subst Block (sym (block_at i l)) (sized i l);
    columns = λ t l.
        let same = column_same C (length given) (content given) (content blocks) (λ i m. sym (block_at i m)) t l in elim (kind (length given) t l) [
          | is_data m ↦ sym (column_data C (length given) (content blocks) t m)
          | is_P e ↦ ap (λ x. get_or blocks x []) e ∙ block_P ∙ ep ∙ ap (column C (length given) (content given)) (sym e) ∙ same
          | is_Q e ↦ ap (λ x. get_or blocks x []) e ∙ block_Q ∙ eq ∙ ap (column C (length given) (content given)) (sym e) ∙ same
        ];
  })

-- a part of bytes that is long enough is a block
pub part_block : (bytes : List ℕ) (a : ℕ) → a + block_size ≤ length bytes → ((i : ℕ) → get_or bytes i 0 < 256) → Block (take block_size (drop a bytes))
part_block bytes a h small = record {
  long = simp (length-take, length-drop) (omega arith);
  bytes = λ i. elim (cases_lt i block_size) [
    | inl l ↦ subst (λ x. x < 256) (sym (get_or-take block_size (drop a bytes) i 0 l ∙ get_or-drop a bytes i 0)) (small (a + i))
    | inr l ↦
        subst (λ x. x < 256) (sym (get_or_past (take block_size (drop a bytes)) i 0 (simp (length-take, length-drop) (omega arith)))) (omega arith)
  ];
}
