-- What a fault layer means by its table and by what is below it, and what each call makes of it.
use Rattle.std.specs.Prelude.{ℕ, false, cond, ◌||◌, List, length, is_some, Some, None, Option, ◌==◌, nat_lt}
use Rattle.code.specs.Blocks.{block_size}
use Rattle.member.specs.declared.Cause.TheVariants.{Gone}
use Rattle.member.specs.Faults.{Origin, Refusal, raised, above}
use Rattle.member.specs.Meaning.{Meaning, write_refusal}
use Rattle.faultplan.specs.declared.entry.Event.TheVariants.{Refused, Accepted, Fresh}
use Rattle.faultplan.specs.declared.entry.Check.{Check}
use Rattle.faultplan.specs.declared.entry.Check.TheVariants.{Present, Readable, Writable}
use Rattle.faultplan.specs.declared.plan.Plan.{Plan}
use Rattle.faultplan.specs.Entries.{check_cause}
use Rattle.faultplan.specs.Plans.{failed, told, advanced}

-- a fault of the layer's own carries its height, one more than below, and the block asked
abbrev pub own_origin : Meaning → ℕ → Origin
own_origin m b = record { height = above m.height; block = b }

-- What a layer with this table means over what means m. Of one cause, its own fault comes before that from below.
abbrev pub layered : Plan → Meaning → Meaning
layered p m = record {
  count = m.count;
  height = above m.height;
  gone = failed Present p || m.gone;
  block = λ b. cond (failed (Readable b) p) None (m.block b);
  writable = λ b. cond (failed (Writable b) p) false (m.writable b);
  gone_origin = λ b. cond (failed Present p) (own_origin m b) (m.gone_origin b);
  unreadable_origin = λ b. cond (failed (Readable b) p) (own_origin m b) (m.unreadable_origin b);
  unwritable_origin = λ b. cond (failed (Writable b) p) (own_origin m b) (m.unwritable_origin b);
}

-- The refusal of a call with a good buffer on a block that there is, where the layer does not pass the call on: gone by its own
-- table, or the check fails by it. But a member that is gone below comes before the check.
abbrev pub withheld : Plan → Meaning → Check → ℕ → Option Refusal
withheld p m c b =
    cond (failed Present p) (Some (raised Gone (own_origin m b)))
    (cond (failed c p) (Some (cond m.gone (raised Gone (m.gone_origin b)) (raised (check_cause c) (own_origin m b)))) None)

-- only the fault of a member that is gone
abbrev pub only_gone : Option Refusal → Option Refusal
only_gone None = None
only_gone (Some f) = cond (f.cause == 1) (Some f) None

-- the first refusal, or else the second
abbrev pub or_else : Option Refusal → Option Refusal → Option Refusal
or_else (Some f) o = Some f
or_else None o = o

-- a fault layer: what is below, and its table
pub record Planned (S : Type 0) : Type 0 where
  pub below : S
  pub plan : Plan

abbrev pub planned : {S : Type 0} → S → Plan → Planned S
planned s p = record { below = s; plan = p }

module _ {S : Type 0} (mean : S → Meaning) where
  abbrev pub layer_meaning : Planned S → Meaning
  layer_meaning x = layered x.plan (mean x.below)

  -- a read goes below unless the layer refuses it itself
  abbrev pub layer_seen : (S → ℕ → ℕ → S) → Planned S → ℕ → ℕ → Planned S
  layer_seen see x b n =
      cond (n == block_size)
      (cond (nat_lt b (mean x.below).count)
      (cond (is_some (withheld x.plan (mean x.below) (Readable b) b)) x (planned (see x.below b n) x.plan)) x)
      x

  module _ (write : S → ℕ → List ℕ → S) where
    -- a write that goes below: if it is accepted there, every entry is told
    abbrev pub passed : Planned S → ℕ → List ℕ → Planned S
    passed x b v =
        planned (write x.below b v)
        (cond (is_some (write_refusal (mean x.below) b (length v))) x.plan (told (Accepted b) x.plan))

    -- a write that the layer refuses itself does not go below: if it is refused with 3, every entry is told
    abbrev pub stopped : Planned S → ℕ → Refusal → Planned S
    stopped x b f = planned x.below (cond (f.cause == 3) (told (Refused b) x.plan) x.plan)

    abbrev pub settled : Planned S → ℕ → List ℕ → Option Refusal → Planned S
    settled x b v None = passed x b v
    settled x b v (Some f) = stopped x b f

    -- a write with a bad buffer, or to no block, changes nothing
    abbrev pub layer_wrote : Planned S → ℕ → List ℕ → Planned S
    layer_wrote x b v =
        cond (length v == block_size)
        (cond (nat_lt b (mean x.below).count) (settled x b v (withheld x.plan (mean x.below) (Writable b) b)) x)
        x

-- a tick goes below, and is then counted
abbrev pub layer_ticked : {S : Type 0} → (S → S) → Planned S → Planned S
layer_ticked tick x = planned (tick x.below) (advanced x.plan)

-- fresh ends all active entries, for good, and renews what is below; the count of ticks and what is not yet active stay
abbrev pub layer_renewed : {S : Type 0} → (S → S) → Planned S → Planned S
layer_renewed renew x = planned (renew x.below) (told Fresh x.plan)
