-- Refusals in numbers.
use Rattle.std.specs.Prelude.{ℕ, Bool, true, false, cond, Ok, Err, Result, ◌==◌}
use Rattle.contents.specs.declared.Loss.{Loss}
use Rattle.contents.specs.declared.Fitness.{Fitness}
use Rattle.contents.specs.declared.Fitness.TheVariants.{Fit, Unfit}
use Rattle.contents.specs.declared.Refusal.{Refusal}
use Rattle.contents.specs.declared.Refusal.TheVariants.{NoSuch, Length, Lost, Torn, Busy, Whole, NotOpen, Failed}

-- a refusal: its number, and the values that it carries, 0 where it carries none
pub record Told : Type 0 where
  pub number : ℕ
  pub stripe : ℕ
  pub gone : ℕ
  pub behind : ℕ
  pub unreadable : ℕ

-- a refusal that carries nothing
abbrev pub plain : ℕ → Told
plain n = record { number = n; stripe = 0; gone = 0; behind = 0; unreadable = 0 }

-- a refusal that carries a stripe and its three masks
abbrev pub with_loss : ℕ → Loss → Told
with_loss n l = record { number = n; stripe = l.stripe; gone = l.gone; behind = l.behind; unreadable = l.unreadable }

-- the number and the values of each refusal
abbrev pub told : Refusal → Told
told NoSuch = plain 2
told Length = plain 3
told (Lost l) = with_loss 4 l
told (Torn l) = with_loss 5 l
told Busy = plain 6
told Whole = plain 7
told NotOpen = plain 8
told (Failed f) = plain 9

-- what a call answered, its refusal in numbers
abbrev pub outcome : {U : Type 0} → Result U Refusal → Result U Told
outcome (Ok u) = Ok u
outcome (Err e) = Err (told e)

-- another answer in the place of the one that is there; a refusal stays
abbrev pub answering : {U W : Type 0} → W → Result U Told → Result W Told
answering w (Ok u) = Ok w
answering w (Err t) = Err t

-- the number of a refusal, 0 where there is none
abbrev pub refusal_number : {U : Type 0} → Result U Told → ℕ
refusal_number (Ok u) = 0
refusal_number (Err t) = t.number

-- a write is taken unless it is refused with 2, 3 or 4
abbrev pub taken : {U : Type 0} → Result U Told → Bool
taken r = cond (refusal_number r == 2) false (cond (refusal_number r == 3) false (cond (refusal_number r == 4) false true))

-- the number of a fitness
abbrev pub fitness_number : Fitness → ℕ
fitness_number Fit = 0
fitness_number Unfit = 1
