-- The answers of the functions on a stripe, as numbers.
use Rattle.std.specs.Prelude.{ℕ, ◌+◌, ◌-◌, Bool, true, cond, not, ◌&&◌, List, is_some, Ok, Err, Option, Result, ◌==◌, nat_le, nat_lt}
use Rattle.code.specs.declared.CodeRefusal.{CodeRefusal}
use Rattle.code.specs.declared.CodeRefusal.TheVariants as code
use Rattle.parity.specs.Stripe.{missing}
use Rattle.parity.specs.declared.Way.{Way}
use Rattle.parity.specs.declared.Way.TheVariants.{Plain, Mixed, Unmixed, PWithout, QWithout, Pair}
use Rattle.recovery.specs.declared.refusal.StripeRefusal.{StripeRefusal}
use Rattle.recovery.specs.declared.refusal.StripeRefusal.TheVariants.{Column, Length, Loss}

-- the number of each refusal
abbrev pub number : StripeRefusal → ℕ
number Column = 2
number Length = 3
number Loss = 4

-- 0 for a call that is taken, else the refusal's number
abbrev pub stripe_answer : {U : Type 0} → Result U StripeRefusal → ℕ
stripe_answer (Ok u) = 0
stripe_answer (Err e) = number e

-- a code's refusal, as a stripe's
abbrev pub raised : CodeRefusal → StripeRefusal
raised code.Column = Column
raised code.Length = Length

-- a call on column t of a stripe of k data columns under the limit w: the buffers are looked at first
abbrev pub on_stripe : ℕ → ℕ → ℕ → Bool → ℕ
on_stripe w k t good = cond good (cond (nat_le k w && nat_lt t (k + 2)) 0 2) 3

-- the data columns that a way names are below the limit w, and two of them differ
abbrev pub named : ℕ → Way → Bool
named w Plain = true
named w Mixed = true
named w (Unmixed i) = nat_lt i w
named w (PWithout i) = nat_lt i w
named w (QWithout i) = nat_lt i w
named w (Pair i j) = nat_lt i w && (nat_lt j w && not (i == j))

-- a call that goes a way: the buffers are looked at first
abbrev pub on_way : ℕ → Way → Bool → ℕ
on_way w v good = cond good (cond (named w v) 0 2) 3

-- a call on all of n data columns under the limit w: the buffers are looked at first
abbrev pub on_count : ℕ → ℕ → Bool → ℕ
on_count w n good = cond good (cond (nat_le n w) 0 2) 3

-- two lists of n and m columns and marks are those of a stripe that has column t, under the limit w
abbrev pub shaped : ℕ → ℕ → ℕ → ℕ → Bool
shaped w n m t = n == m && (nat_le 2 n && (nat_le (n - 2) w && nat_lt t n))

-- column t and at least two more of the n columns are missing
abbrev pub unrecoverable : (ℕ → Option (List ℕ)) → ℕ → ℕ → Bool
unrecoverable cols n t = not (is_some (cols t)) && nat_lt 2 (missing cols n)

-- a call for column t of the columns cols, n of them beside m marks: first the buffer, then the shape, then what is missing
abbrev pub on_recover : ℕ → ℕ → ℕ → (ℕ → Option (List ℕ)) → ℕ → Bool → ℕ
on_recover w n m cols t good = cond good (cond (shaped w n m t) (cond (unrecoverable cols n t) 4 0) 2) 3
