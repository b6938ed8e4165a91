-- A call that was made is one event more of the volume's history.
use Rattle.std.proofs.Common.{◌≡◌, ◌≢◌, ℕ, Bool, true, false, cond, List, length, is_ok, IfOk, Ok, Err, Result, sym, refl, ap, ◌∙◌, subst, arith}
use Rattle.std.proofs.lemmas.Bool.{cond-false, ne_eqb, false≢true}
use Rattle.code.specs.Blocks.{Bytes}
use Rattle.contents.specs.declared.Refusal.{Refusal}
use Rattle.contents.specs.Refusals.{Told, answering}
use Rattle.contents.specs.Shapes.{Shape, Roomy}
use Rattle.history.specs.Calls.{State, Call, Answer, Makes, answered}
use Rattle.history.specs.Calls.Call.{tick, read, write, scrub, replace, open_slot, step, close, margin}
use Rattle.history.specs.Calls.Answer.{bytes}
use Rattle.history.specs.History.{GivenBytes}
use Rattle.history.proofs.Logs.{kept_by_calls, kept_is_roomy}
use Rattle.volume.specs.declared.volume.Volume.{Volume}
use Rattle.volume.specs.declared.volume.rebuilds.Order.{Order}
use Rattle.volume.specs.Slots.{records_of}
use Rattle.volume.specs.Volumes.{records, ordered}
use Rattle.runs.specs.Told.{event, GoesOn}

-- ---- a table that stays
pub records_same : {C L B : Type 0} (v w : Volume C L B) → w.table ≡ v.table → records w ≡ records v
records_same v w e = ap (λ t. records_of t.rows) e

-- ---- one event more
abbrev is_write : Call → Bool
is_write tick = false
is_write (read a len) = false
is_write (write a v) = true
is_write (scrub s) = false
is_write (replace i) = false
is_write (open_slot i) = false
is_write (step i) = false
is_write (close i) = false
is_write margin = false

-- only a write is given bytes
pub no_bytes : (q : Call) → is_write q ≡ false → GivenBytes q
no_bytes q h a v e = absurd (false≢true (sym h ∙ ap is_write e))

pub given : (a : ℕ) (v : List ℕ) → Bytes (length v) v → GivenBytes (write a v)
given a v h b x e = let d : v ≡ x = cc in subst (λ (y : List ℕ). Bytes (length y) y) d h

pub goes : (V : Shape) (σ τ : State) (q : Call) (r : Answer) → GivenBytes q → (Roomy V σ.members → Makes V σ q r τ) → GoesOn V σ (event q r) τ
goes V σ τ q r given makes start es k = kept_by_calls V start es σ τ q r k given (makes (kept_is_roomy V start es σ k))

-- of a call that is no write
pub goes_by : (V : Shape) (σ τ : State) (q : Call) (r : Answer) → Makes V σ q r τ → is_write q ≡ false → GoesOn V σ (event q r) τ
goes_by V σ τ q r makes h = goes V σ τ q r (no_bytes q h) (λ _. makes)

-- what an answered read left in its buffer is what is recovered
pub handed_out : (x : Result Unit Told) (held block old : List ℕ) → held ≡ cond (is_ok x) block old → answered (λ _. bytes held) x ≡ answered (λ _. bytes block) x
handed_out (Ok u) held block old e = ap bytes e
handed_out (Err t) held block old e = refl

-- an order that is handed out is for the slot asked
pub order_slot : (r : Result Order Refusal) (x : Result ℕ Told) (i : ℕ) → ordered r ≡ answering i x → IfOk r (λ o. o.slot ≡ i)
order_slot (Ok o) (Ok n) i e = let d : o.slot ≡ i = cc in d
order_slot (Ok o) (Err t) i e = absurd (let z : ◌≡◌ {A = ℕ} 0 1 = cc in omega arith)
order_slot (Err f) x i e = tt

-- a read into a buffer that is not a block's is refused, whichever its length
pub unsized : (V : Shape) (σ τ : State) (a n : ℕ) (r : Answer) → n ≢ 512 → Makes V σ (read a 0) r τ → Makes V σ (read a n) r τ
unsized V σ τ a n r h m = record {
  answer = m.answer ∙ sym (ap (answered _) (cond-false _ _ _ (ne_eqb n 512 h)));
  changes = m.changes;
}
