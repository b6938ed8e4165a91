-- Plans of a script's entries.
use Rattle.std.proofs.Common.{◌≡◌, ℕ, ◌+◌, List, Option, ap, ◌∙◌, add-one}
use Rattle.faultplan.specs.declared.plan.Plan.{Plan}
use Rattle.faultplan.specs.Plans.{empty}
use Rattle.faultplan.specs.Layers.{layered}
use Rattle.bank.specs.Chains.{linked_slots}
use Rattle.bank.specs.Slots.{Slots}
use Rattle.member.specs.Meaning.{Meaning}
use Rattle.remap.specs.Places.{Table}
use Rattle.remap.specs.Remapped.{remapped}
use Rattle.script.specs.declared.parts.Entry.{Entry}
use Rattle.script.specs.Format.{entry_at}
use Rattle.recorder.specs.Planned.{with_planned, planned}

pub planned_none : (xs : List ℕ) (slot : ℕ) (p : Plan) → p ≡ empty → p ≡ planned xs slot 0
unfolding planned
planned_none xs slot p e = e

pub planned_more : (xs : List ℕ) (slot n : ℕ) (e : Option Entry) (p q : Plan)
    → e ≡ entry_at xs n → p ≡ planned xs slot n → q ≡ with_planned e slot p → q ≡ planned xs slot (n + 1)
unfolding planned
planned_more xs slot n e p q h i j = rw add-one (cc)

-- layers are equal where their parts are
pub stacked : {M : Type 0} (mean : M → Meaning) (t u : Table) (p q : Plan) (a b : M)
    → t ≡ u → p ≡ q → a ≡ b → remapped t (layered p (mean a)) ≡ remapped u (layered q (mean b))
stacked mean t u p q a b e f h = cc

-- chains are equal where their parts are
pub link_eq : (m n : Meaning) (ms ns : Slots) → m ≡ n → ms ≡ ns → linked_slots m ms ≡ linked_slots n ns
link_eq m n ms ns e f = ap (λ x. linked_slots x ms) e ∙ ap (λ x. linked_slots n x) f
