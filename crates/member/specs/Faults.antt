-- Faults in numbers.
use Rattle.std.specs.Prelude.{◌≡◌, ℕ, ◌+◌, min, Bool, false, List, ◌++◌, codes, decimal, Some, None, Ok, Err, Option, Result, ◌==◌}
use Rattle.member.specs.declared.Cause.{Cause}
use Rattle.member.specs.declared.Cause.TheVariants.{Gone, Unreadable, Unwritable, NoBlock, BadBuffer, NoSlot}
use Rattle.member.specs.declared.Fault.{Fault}

-- the number of each cause
abbrev pub cause_number : Cause → ℕ
cause_number Gone = 1
cause_number Unreadable = 2
cause_number Unwritable = 3
cause_number NoBlock = 4
cause_number BadBuffer = 5
cause_number NoSlot = 6

-- where a fault comes from: the height of the layer that raised it, and the number that the block has there
pub record Origin : Type 0 where
  pub height : ℕ
  pub block : ℕ

-- why a call is refused: the cause's number, and where the fault comes from
pub record Refusal : Type 0 where
  pub cause : ℕ
  pub from : Origin

-- a fault of this cause from there
abbrev pub raised : Cause → Origin → Refusal
raised c o = record { cause = cause_number c; from = o }

-- a fault in numbers
abbrev pub numbers : Fault → Refusal
numbers f = raised f.cause (record { height = f.height; block = f.block })

-- a refusal in text: its cause, its height and its block
abbrev pub fault_text : Refusal → List ℕ
fault_text r = decimal r.cause ++ (codes " " ++ (decimal r.from.height ++ (codes " " ++ decimal r.from.block)))

-- what a call answered: nothing where it was accepted, else the refusal
abbrev pub refusal : {U : Type 0} → Result U Fault → Option Refusal
refusal (Ok u) = None
refusal (Err f) = Some (numbers f)

-- whether it was refused with the cause of this number
abbrev pub refused_with : ℕ → Option Refusal → Bool
refused_with c None = false
refused_with c (Some f) = f.cause == c

-- the numbers determine the fault
abbrev pub ToldApart : Type 0
ToldApart = (f g : Fault) → numbers f ≡ numbers g → f ≡ g

-- the height of a layer over what has height h: one more, stopping at 255
abbrev pub above : ℕ → ℕ
above h = min 255 (h + 1)
