-- A loss, slot by slot.
use Rattle.std.specs.Prelude.{ℕ, ◌+◌, ◌^◌, ◌<◌}
use Rattle.contents.specs.declared.Loss.{Loss}
use Rattle.contents.specs.declared.Status.{Status}
use Rattle.contents.specs.declared.Status.TheVariants.{Current, Gone, Behind, Unreadable}

-- a bit in the mask of a status; a current column is in none
abbrev pub with_status : Loss → Status → ℕ → Loss
with_status l Current b = l
with_status l Gone b = record { stripe = l.stripe; gone = l.gone + b; behind = l.behind; unreadable = l.unreadable }
with_status l Behind b = record { stripe = l.stripe; gone = l.gone; behind = l.behind + b; unreadable = l.unreadable }
with_status l Unreadable b = record { stripe = l.stripe; gone = l.gone; behind = l.behind; unreadable = l.unreadable + b }

-- the masks have room for a bit
pub record Room (l : Loss) (b : ℕ) : Type 0 where
  pub gone : l.gone + b < 2 ^ 32
  pub behind : l.behind + b < 2 ^ 32
  pub unreadable : l.unreadable + b < 2 ^ 32
