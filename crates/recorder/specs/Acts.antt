-- The calls that an operation makes on a volume with S stripes, their answers, and what its line says of them.
use Rattle.std.specs.Prelude.{◌≡◌, ℕ, ◌+◌, ◌<◌, ◌≤◌, List, [], ◌++◌, replicate, Some, None, Ok, Err, Option, Result}
use Rattle.contents.specs.declared.Refusal.{Refusal}
use Rattle.contents.specs.Refusals.{Told, told}
use Rattle.contents.specs.Shapes.{Shape}
use Rattle.history.specs.Calls.{State, Call, Answer}
use Rattle.history.specs.Calls.Call.{tick, read, write, scrub, replace, open_slot, step, close}
use Rattle.history.specs.Calls.Answer.{number, order, refused}
use Rattle.history.specs.History.{Event}
use Rattle.runs.specs.Told.{event, GoesOn}
use Rattle.script.specs.declared.parts.Act.{Act}
use Rattle.script.specs.declared.parts.Act.TheVariants.{Tick, Read, Write, Scrub, Replace, Rebuild, Unknown}
use Rattle.recorder.specs.declared.acts.ActRefusal.{ActRefusal}
use Rattle.recorder.specs.declared.acts.ActRefusal.TheVariants as act_refusal
use Rattle.recorder.specs.declared.acts.ActRefusal.TheVariants.{Refused}
use Rattle.recorder.specs.Lines.{line_of, refused_line, unknown_line}

-- the line of what an operation answered
abbrev pub refusal_line : ActRefusal → ℕ × ℕ
refusal_line (Refused e) = refused_line (told e)
refusal_line act_refusal.Unknown = unknown_line

abbrev pub told_line : Result ℕ ActRefusal → ℕ × ℕ
told_line (Ok n) = (0, n)
told_line (Err e) = refusal_line e

-- one call, whose answer is the line's
pub record OneCall (q : Call) (es : List Event) (r : ℕ × ℕ) : Type 0 where
  pub answer : Answer
  pub made : es ≡ event q answer
  pub line : r ≡ line_of answer

-- n steps by an order for slot i, each of which was answered, with stripes left
pub data SteppedOn (S i : ℕ) : ℕ → List Event → Type 0 where
  none : SteppedOn S i 0 []
  more : (n f : ℕ) (es : List Event) → SteppedOn S i n es → f < S → SteppedOn S i (n + 1) (es ++ event (step i) (number f))

-- at most y steps: all y of them; or fewer, the last of which came to the end or was refused
pub data Stopped (S i y : ℕ) : List Event → Option Told → Type 0 where
  spent : (es : List Event) → SteppedOn S i y es → Stopped S i y es None
  ended : (n f : ℕ) (es : List Event) → n < y → SteppedOn S i n es → S ≤ f → Stopped S i y (es ++ event (step i) (number f)) None
  halted : (n : ℕ) (t : Told) (es : List Event) → n < y → SteppedOn S i n es → Stopped S i y (es ++ event (step i) (refused t)) (Some t)

-- the line of a rebuild: the refusal of a step if there was one, else what closing answered
abbrev pub rebuild_line : Option Told → Answer → ℕ × ℕ
rebuild_line None r = line_of r
rebuild_line (Some t) r = refused_line t

-- the refusal of a step, in numbers
abbrev pub told_stop : Result Unit Refusal → Option Told
told_stop (Ok u) = None
told_stop (Err e) = Some (told e)

-- the slot is opened, which may be refused; then come the steps, and then it is closed
pub data Rebuilt (S i y : ℕ) : List Event → ℕ × ℕ → Type 0 where
  kept_shut : (t : Told) → Rebuilt S i y (event (open_slot i) (refused t)) (refused_line t)
  rebuilt : (es : List Event) (stop : Option Told) (r : Answer) → Stopped S i y es stop
      → Rebuilt S i y (event (open_slot i) (order i) ++ (es ++ event (close i) r)) (rebuild_line stop r)

-- the calls of each operation; a write fills its block with its byte, and one that is not known makes none
abbrev pub Acted : ℕ → Act → List Event → ℕ × ℕ → Type 0
Acted S Tick es r = OneCall tick es r
Acted S (Read a) es r = OneCall (read a 512) es r
Acted S (Write a byte) es r = OneCall (write a (replicate 512 byte)) es r
Acted S (Scrub s) es r = OneCall (scrub s) es r
Acted S (Replace i) es r = OneCall (replace i) es r
Acted S (Rebuild i y) es r = Rebuilt S i y es r
Acted S Unknown es r = (es ≡ []) × (r ≡ unknown_line)

-- an operation on a volume: its calls, which the volume's history goes on by
pub record ActsOn (V : Shape) (σ : State) (a : Act) (r : ℕ × ℕ) (τ : State) : Type 0 where
  pub log : List Event
  pub acted : Acted V.stripes a log r
  pub goes : GoesOn V σ log τ

-- the steps of a rebuild on a volume
pub record StepsOn (V : Shape) (σ : State) (i y : ℕ) (stop : Option Told) (τ : State) : Type 0 where
  pub log : List Event
  pub stopped : Stopped V.stripes i y log stop
  pub goes : GoesOn V σ log τ
