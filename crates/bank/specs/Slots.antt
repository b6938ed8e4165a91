-- What a bank means, and what it answers by that.
use Rattle.std.specs.Prelude.{ℕ, ◌-◌, ◌^◌, min, cond, List, Some, None, Ok, Err, Option, Result, nat_lt}
use Rattle.member.specs.declared.Cause.TheVariants.{NoSlot}
use Rattle.member.specs.Faults.{Refusal, raised, numbers}
use Rattle.member.specs.Meaning.{Meaning, handed}
use Rattle.bank.specs.declared.BankFault.{BankFault}

-- A list of members: how many there are, and what the member in each slot below that means. Beyond it `member` says nothing.
pub record Slots : Type 0 where
  pub size : ℕ
  pub member : ℕ → Meaning

-- a length as a machine number tells it, which stops at the largest
abbrev pub told : ℕ → ℕ
told n = min (2 ^ 64 - 1) n

-- what a call answered: nothing where it was accepted, else the refusal in numbers
abbrev pub bank_refusal : {U : Type 0} → Result U BankFault → Option Refusal
bank_refusal (Ok u) = None
bank_refusal (Err f) = Some (numbers f.fault)

-- the refusal of a slot beyond the list: 6, at height 0, with the block asked
abbrev pub no_slot : ℕ → Refusal
no_slot b = raised NoSlot (record { height = 0; block = b })

-- 6 for a slot beyond the list, else what the member in slot i refuses; b is the block asked
abbrev pub on_slot : Slots → ℕ → ℕ → (Meaning → Option Refusal) → Option Refusal
on_slot ms i b refused = cond (nat_lt i ms.size) (refused (ms.member i)) (Some (no_slot b))

-- the same for a call that asks no block, which carries 0, and that no member refuses
abbrev pub slot_refusal : Slots → ℕ → Option Refusal
slot_refusal ms i = on_slot ms i 0 (λ _. None)

-- what the buffer of a read holds after it: what the member in slot i hands out, or what it held if there is no such slot
abbrev pub slot_handed : Slots → ℕ → ℕ → List ℕ → List ℕ
slot_handed ms i b old = cond (nat_lt i ms.size) (handed (ms.member i) b old) old
