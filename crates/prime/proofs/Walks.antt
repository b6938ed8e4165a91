-- The walk over the rows of a block that solves all of its columns, step by step.
use Rattle.std.proofs.Common.{◌≡◌, ℕ, suc, ◌+◌, ◌-◌, ◌*◌, ◌%◌, ◌<◌, ◌≤◌, List, length, get_or, sym, ap, ◌∙◌, inl, inr, mod-lt, mod-eq_of_lt, add-one, arith}
use native.Mathlib.Nat.{add-mod_right}
use lib.Bits.{bit_xor}
use Rattle.std.specs.List.{between}
use lib.Seq.{paste}
use Rattle.std.proofs.lemmas.List.Edits.{get_or-between, length-paste}
use Rattle.std.proofs.lemmas.Bool.{cases_eq}
use Rattle.code.specs.Blocks.{onto}
use Rattle.code.proofs.Blocks.{length_onto, get_or_onto}
use Rattle.prime.specs.Primes.{Prime}
use Rattle.prime.specs.Rows.{xors, cell, rows}
use Rattle.prime.specs.Diagonals.{walk, steps, closed, solved, inverse_below, gap, unpaired_block}
use Rattle.prime.proofs.Mods.{cancel}
use Rattle.prime.proofs.Shifts.{walk_more, walk_steps, steps_walk, turns}
use Rattle.prime.proofs.Laws.{inverse_found, gap_some, gap_low}
use Rattle.prime.proofs.Grids.{is_rows}
use Rattle.prime.proofs.Sizes.{Sizes}
use Rattle.prime.proofs.Repeats.{Closes, paste_inside, other_row, length_row}

-- byte t of the ⊕ of the rows of b that the first m steps of the walk take
abbrev along : ℕ → ℕ → ℕ → ℕ → List ℕ → ℕ → ℕ → ℕ
along p w u d b t m = xors (λ i. closed p (λ r. cell w b r t) (walk p (p - 1 + u * (p - 1)) d i)) m

-- a step between two distinct shifts
pub record Stride (p d : ℕ) : Type 0 where
  pub prime : Prime p
  pub some : 0 < d
  pub low : d < p

-- after m steps of d the walk stands at row k, takes row r of b next and has added up `sum`; the rows that it has met are solved
pub record Walked (p w n u d : ℕ) (b out sum : List ℕ) (m k r : ℕ) : Type 0 where
  pub stride : Stride p d
  pub at_k : k ≡ walk p (p - 1) d m
  pub at_r : r ≡ walk p (p - 1 + u * (p - 1)) d m
  pub room : length sum ≡ n
  pub so_far : (t : ℕ) → t < w → get_or sum t 0 ≡ along p w u d b t m
  pub long : length out ≡ n
  pub solves : (k t : ℕ) → k < p - 1 → t < w → steps p (p - 1) (inverse_below p d p) k ≤ m → cell w out k t ≡ solved p u d (inverse_below p d p) (λ r. cell w b r t) k

-- where the walk stands
pub low_k : {p w n u d : ℕ} {b out sum : List ℕ} {m k r : ℕ} → Walked p w n u d b out sum m k r → k < p
low_k {p = p} {d = d} {m = m} W = rw W.at_k (mod-lt (p - 1 + m * d) {m = p} (omega (arith, W.stride.prime.0)))

pub low_r : {p w n u d : ℕ} {b out sum : List ℕ} {m k r : ℕ} → Walked p w n u d b out sum m k r → r < p
low_r {p = p} {u = u} {d = d} {m = m} W = rw W.at_r (mod-lt (p - 1 + u * (p - 1) + m * d) {m = p} (omega (arith, W.stride.prime.0)))

module _ {p d : ℕ} (D : Stride p d) where
  inv : (d * inverse_below p d p) % p ≡ 1
  inv = inverse_found p D.prime d D.some D.low

  start : walk p (p - 1) d 0 ≡ p - 1
  start = ap (λ x. x % p) (omega arith) ∙ mod-eq_of_lt (omega (arith, D.prime.0))

  -- the walk does not come back to the row of zeros before it is done
  walk_below : (m : ℕ) → m < p - 1 → walk p (p - 1) d (suc m) < p - 1
  walk_below m l = elim (cases_eq (walk p (p - 1) d (suc m)) (p - 1)) [
    | inl q ↦
        let z : suc m ≡ 0 = sym (steps_walk p D.prime.0 d (inverse_below p d p) inv (p - 1) (suc m) (omega arith)) ∙ ap (steps p (p - 1) (inverse_below p d p)) (q ∙ sym start)
        ∙ steps_walk p D.prime.0 d (inverse_below p d p) inv (p - 1) 0 (omega arith) in
        absurd (omega arith)
    | inr q ↦ omega (arith, mod-lt (p - 1 + suc m * d) {m = p} (omega arith))
  ]

module _ {p w n u d : ℕ} (S : Sizes p w n) where
  pub walked_none : Stride p d → (b out sum : List ℕ) (r : ℕ) → length out ≡ n → length sum ≡ n → ((t : ℕ) → get_or sum t 0 ≡ 0) → r ≡ walk p (p - 1 + u * (p - 1)) d 0 → Walked p w n u d b out sum 0 (p - 1) r
  walked_none D b out sum r lo ls z hr = record {
    stride = D;
    at_k = sym (start D);
    at_r = hr;
    room = ls;
    so_far = λ t _. z t;
    long = lo;
    solves = λ k t l m h.
        let none : steps p (p - 1) (inverse_below p d p) k ≡ 0 = omega arith in
        let top : k ≡ p - 1 = sym (walk_steps p D.prime.0 d (inverse_below p d p) (inv D) (p - 1) k (omega arith)) ∙ ap (walk p (p - 1) d) none ∙ start D in
        absurd (omega arith);
  }

  module _ {b out sum : List ℕ} {m k r : ℕ} (W : Walked p w n u d b out sum m k r) where
    module _ {k' : ℕ} (hm : m < p - 1) (hk : k' ≡ (k + d) % p) where
      next_k : k' ≡ walk p (p - 1) d (suc m)
      next_k = hk ∙ ap (λ x. (x + d) % p) W.at_k ∙ sym (walk_more p W.stride.prime.0 (p - 1) d m)

      -- the next row to write is one of the block
      pub next_within : k' < p - 1
      next_within = rw next_k (walk_below W.stride m hm)

      pub walked_more : (given row sum' : List ℕ) {first out' : List ℕ} {r' : ℕ} → Closes p w b given → r * w + w ≤ length given → r' ≡ (r + d) % p →
          row ≡ between (r * w) (r * w + w) given → sum' ≡ onto sum row → first ≡ between (0 * w) (0 * w + w) sum' → out' ≡ paste out (k' * w) first w →
          Walked p w n u d b out' sum' (m + 1) k' r'
      unfolding solved
      walked_more given row sum' {first = first} {out' = out'} G hg hr er es ef eo = rw (add-one m) (record {
        stride = W.stride;
        at_k = next_k;
        at_r = hr ∙ ap (λ x. (x + d) % p) W.at_r ∙ sym (walk_more p W.stride.prime.0 (p - 1 + u * (p - 1)) d m);
        room = room';
        so_far = added;
        long = ap length eo ∙ length-paste out (k' * w) first w (omega (arith, fits)) (omega (arith, lf)) ∙ W.long;
        solves = λ i t l ht h. elim (cases_eq i k') [
          | inl q ↦ rw q (written t ht ∙ added t ht ∙ sym (solved_here t))
          | inr q ↦ ap (λ (x : List ℕ). cell w x i t) eo ∙ other_row w out k' first i t fits (omega (arith, lf)) ht q ∙ W.solves i t l ht (earlier i q l h)
        ];
      })
        where
          room' : length sum' ≡ n
          room' = ap length es ∙ length_onto sum row ∙ W.room

          lf : length first ≡ w
          lf = length_row w 0 sum' first (omega (arith, room', S.short)) ef

          fits : k' * w + w ≤ length out
          fits = omega (arith, S.within k' next_within, W.long)

          added : (t : ℕ) → t < w → get_or sum' t 0 ≡ along p w u d b t (suc m)
          added t ht =
              ap (λ (x : List ℕ). get_or x t 0) es ∙ get_or_onto sum row t (omega (arith, S.short, W.room))
              ∙ ap (λ x. bit_xor x (get_or row t 0)) (W.so_far t ht)
              ∙ ap (bit_xor (along p w u d b t m)) (ap (λ (x : List ℕ). get_or x t 0) er ∙ get_or-between given (r * w) (r * w + w) t 0 (omega arith) ∙ G r t (low_r W) ht ∙ ap (closed p (λ r. cell w b r t)) W.at_r)

          written : (t : ℕ) → t < w → cell w out' k' t ≡ get_or sum' t 0
          written t ht =
              ap (λ (x : List ℕ). cell w x k' t) eo ∙ paste_inside out (k' * w) first w t fits (omega (arith, lf)) ht
              ∙ ap (λ (x : List ℕ). get_or x t 0) ef ∙ get_or-between sum' (0 * w) (0 * w + w) t 0 (omega arith) ∙ ap (λ i. get_or sum' i 0) (omega arith)

          here : steps p (p - 1) (inverse_below p d p) k' ≡ suc m
          here = ap (steps p (p - 1) (inverse_below p d p)) next_k ∙ steps_walk p W.stride.prime.0 d (inverse_below p d p) (inv W.stride) (p - 1) (suc m) (omega arith)

          solved_here : (t : ℕ) → solved p u d (inverse_below p d p) (λ r. cell w b r t) k' ≡ along p w u d b t (suc m)
          solved_here t = ap (along p w u d b t) here

          earlier : (i : ℕ) → (i ≡ k' → ⊥) → i < p - 1 → steps p (p - 1) (inverse_below p d p) i ≤ suc m → steps p (p - 1) (inverse_below p d p) i ≤ m
          earlier i q l h = elim (cases_eq (steps p (p - 1) (inverse_below p d p) i) (suc m)) [
            | inl z ↦ absurd (q (sym (walk_steps p W.stride.prime.0 d (inverse_below p d p) (inv W.stride) (p - 1) i (omega arith)) ∙ ap (walk p (p - 1) d) z ∙ sym next_k))
            | inr z ↦ omega arith
          ]

  walked_all : {b out sum : List ℕ} {m k r : ℕ} → p - 1 ≤ m → Walked p w n u d b out sum m k r → out ≡ rows p w (λ k t. solved p u d (inverse_below p d p) (λ r. cell w b r t) k)
  walked_all {b = b} {out = out} h W = is_rows p w S.wide out (λ k t. solved p u d (inverse_below p d p) (λ r. cell w b r t) k) (W.long ∙ sym S.whole) (λ i t l ht.
      W.solves i t l ht (omega (arith, mod-lt ((i + (p - 1) * (p - 1)) * inverse_below p d p) {m = p} (omega arith))))

-- two ways to step back by u
pub minus : (p : ℕ) → 1 < p → (x u : ℕ) → u ≤ p → (x + (p - u)) % p ≡ (x + u * (p - 1)) % p
minus p big x u h = cancel p (omega arith) (x + (p - u)) (x + u * (p - 1)) u
    (ap (λ n. n % p) (omega arith) ∙ add-mod_right x p ∙ sym (ap (λ n. n % p) (omega arith) ∙ turns p big x u))

-- the first row of b on the walk
pub first_row : (p : ℕ) → 1 < p → (u d r : ℕ) → u ≤ p → r ≡ (p - 1 + (p - u)) % p → r ≡ walk p (p - 1 + u * (p - 1)) d 0
first_row p big u d r h e = e ∙ minus p big (p - 1) u h ∙ ap (λ n. n % p) (omega arith)

-- the step that the code takes from shift u to shift v
module _ (p : ℕ) (pr : Prime p) (u v d : ℕ) (hu : u ≤ p) (ne : u % p ≡ v % p → ⊥) (e : d ≡ (v + (p - u)) % p) where
  step_is : d ≡ gap p u v
  step_is = e ∙ minus p pr.0 v u hu

  pub stride : Stride p d
  stride = record {
    prime = pr;
    some = rw step_is (gap_some p pr u v ne);
    low = rw step_is (gap_low p pr u v ne);
  }

  pub walk_solves : {w n : ℕ} {b out sum : List ℕ} {m k r : ℕ} → Sizes p w n → p - 1 ≤ m → Walked p w n u d b out sum m k r → out ≡ unpaired_block p w u v b
  walk_solves {w = w} {b = b} S h W = walked_all S h W ∙ ap (λ (x : ℕ). rows p w (λ k t. solved p u x (inverse_below p x p) (λ r. cell w b r t) k)) step_is
