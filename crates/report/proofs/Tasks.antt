-- The data blocks of a task.
use Rattle.std.proofs.Common.{◌≡◌, ℕ, zero, suc, ◌+◌, ◌*◌, ◌<◌, ◌≤◌, true, eqb, ltb, leb, List, length, get_or, take, drop, [], ap, ◌∙◌, suc-mul, arith}
use Rattle.std.proofs.lemmas.Bool.{and_parts, eqb-true, ltb-true, leb-true}
use Rattle.std.proofs.lemmas.List.{drop-drop}
use Rattle.std.specs.Simd.{first_chunks}
use Rattle.code.specs.Blocks.{block_size}
use Rattle.report.specs.Task.{is_stripe, width}

-- what a stripe's task keeps to
pub record Fitting (w : ℕ) (task : List ℕ) : Type 0 where
  pub long : length task ≡ 4 + block_size * width task
  pub some : 0 < width task
  pub few : width task ≤ 16
  pub limit : width task ≤ w

pub fitting : (w : ℕ) (task : List ℕ) → is_stripe w task ≡ true → Fitting w task
fitting w task e =
    let a = and_parts (eqb (length task) (4 + block_size * width task)) _ e in
    let b = and_parts (ltb 0 (width task)) _ a.1 in
    let d = and_parts (leb (width task) 16) (leb (width task) w) b.1 in
    record { long = eqb-true _ _ a.0; some = ltb-true _ _ b.0; few = leb-true _ _ d.0; limit = leb-true _ _ d.1 }

pub chunk_at : (n k : ℕ) (xs : List ℕ) (i : ℕ) → i < k → get_or (first_chunks n k xs) i [] ≡ take n (drop (i * n) xs)
chunk_at n zero xs i l = absurd (omega arith)
chunk_at n (suc k) xs zero l = let none : 0 ≡ 0 * n = omega arith in ap (λ m. take n (drop m xs)) none
chunk_at n (suc k) xs (suc i) l =
    let more : n + i * n ≡ suc i * n = omega (arith, suc-mul i n) in
    chunk_at n k (drop n xs) i (omega arith) ∙ ap (take n) (drop-drop (i * n) n xs ∙ ap (λ m. drop m xs) more)
