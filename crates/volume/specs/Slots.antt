-- The slots of a volume: their records, and the members that lie in them.
use Rattle.std.specs.Prelude.{◌≡◌, ℕ, ◌+◌, false, cond, ◌&&◌, List, is_some, Some, None, Option, nat_lt, slice_index_or}
use Rattle.parity.specs.Stripe.{gaps, missing}
use Rattle.recovery.specs.Losses.{noted}
use Rattle.member.specs.Faults.{Origin}
use Rattle.member.specs.Meaning.{Meaning}
use Rattle.bank.specs.Slots as bank
use Rattle.bank.specs.declared.Bank.{Ghosts as Bank}
use Rattle.contents.specs.Columns.{Members}
use Rattle.contents.specs.declared.SlotRecord.{SlotRecord}
use Rattle.contents.specs.Records.{Records, idle_at, is_open}
use Rattle.volume.specs.declared.survey.Survey.{Survey}

-- the record of each slot; one that there is not is idle, and has nothing
abbrev pub records_of : List SlotRecord → Records
records_of rows i = slice_index_or rows i (idle_at 0)

-- the frontier of a slot: the stripes below it are in its member; 0 where there is no record
abbrev pub frontier_of : List SlotRecord → ℕ → ℕ
frontier_of rows i = (records_of rows i).frontier

-- the frontier of slot i, if it is one of the first n and open
abbrev pub open_frontier : List SlotRecord → ℕ → ℕ → Option ℕ
open_frontier rows n i = cond (nat_lt i n && is_open (records_of rows i).state) (Some (records_of rows i).frontier) None

abbrev pub nowhere : ℕ → Origin
nowhere b = record { height = 0; block = b }

-- a member without blocks, present
abbrev pub empty_member : Meaning
empty_member = record {
  count = 0;
  height = 0;
  gone = false;
  block = λ _. None;
  writable = λ _. false;
  gone_origin = nowhere;
  unreadable_origin = nowhere;
  unwritable_origin = nowhere;
}

-- The members of a bank, as a volume finds them: a slot beyond the bank and a member without blocks count as an empty member that is present.
unfoldable pub members_of : bank.Slots → Members
members_of ms i = cond (nat_lt i ms.size && nat_lt 0 (ms.member i).count) (ms.member i) empty_member

-- the slots that a bank means, and the members that a volume finds in them
abbrev pub slots_in : {B : Type 0} → Bank B → B → bank.Slots
slots_in B b = B.meaning (B.state b)

abbrev pub members_in : {B : Type 0} → Bank B → B → Members
members_in B b = members_of (slots_in B b)

-- what a survey tells of a stripe of k data columns: the missing data columns as far as they matter, whether P is current, and how many
-- columns are missing
pub record Surveyed (cols : ℕ → Option (List ℕ)) (k : ℕ) (r : Survey) : Type 0 where
  pub lost : r.lost ≡ noted (gaps cols k)
  pub p : r.p ≡ is_some (cols k)
  pub count : r.missing ≡ missing cols (k + 2)
