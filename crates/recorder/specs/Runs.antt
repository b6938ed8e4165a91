-- A whole replay: the operations of a script one after the other, and the text of their lines.
use Rattle.std.specs.Prelude.{◌≡◌, ℕ, ◌+◌, ◌<◌, cond, List, [], ◌++◌, Some, ◌==◌}
use Rattle.code.specs.Codes.{Coding}
use Rattle.field.specs.Mixing.{pq}
use Rattle.prime.specs.Diagonals.{rdp, evenodd}
use Rattle.contents.specs.Changes.{FormatChanges}
use Rattle.contents.specs.Records.{idle_at}
use Rattle.contents.specs.Shapes.{Shape}
use Rattle.history.specs.Calls.{State}
use Rattle.history.specs.History.{Event, Kept}
use Rattle.runs.specs.Told.{GoesOn}
use Rattle.script.specs.Acts.{act_of}
use Rattle.script.specs.Format.{operation_at, operation_count}
use Rattle.script.specs.Text.{line_text}
use Rattle.script.specs.declared.line.Line.{Line}
use Rattle.script.specs.declared.parts.Operation.{Operation}
use Rattle.recorder.specs.Acts.{Acted, ActsOn}
use Rattle.recorder.specs.Slots.{recorder_shape, blank_members}

-- the line of operation o in place i, which answered this refusal and value
abbrev pub line_at : ℕ → Operation → ℕ × ℕ → Line
line_at i o r = record { position = i; operation = o.number; refusal = r.0; value = r.1 }

-- operation i of the script xs takes the volume from σ to τ and the text from t to u
pub record ActStep (V : Shape) (xs : List ℕ) (i : ℕ) (σ τ : State) (t u : List ℕ) : Type 0 where
  pub operation : Operation
  pub asked : operation_at xs i ≡ Some operation
  pub line : ℕ × ℕ
  pub acts : ActsOn V σ (act_of operation) line τ
  pub text : u ≡ t ++ line_text (line_at i operation line)

-- the first n operations of the script xs, on a volume with S stripes, make the calls of this log and give the text t
pub data Ran (S : ℕ) (xs : List ℕ) : ℕ → List Event → List ℕ → Type 0 where
  start : Ran S xs 0 [] []
  next : (n : ℕ) (es new : List Event) (t : List ℕ) (o : Operation) (r : ℕ × ℕ) → Ran S xs n es t → operation_at xs n ≡ Some o → Acted S (act_of o) new r
      → Ran S xs (n + 1) (es ++ new) (t ++ line_text (line_at n o r))

-- the first n operations take the volume from σ to τ, and give the text t
pub record RanOn (V : Shape) (xs : List ℕ) (n : ℕ) (σ τ : State) (t : List ℕ) : Type 0 where
  pub log : List Event
  pub ran : Ran V.stripes xs n log t
  pub goes : GoesOn V σ log τ

-- all operations of the script xs on the volume σ give the text t
pub record AllLines (V : Shape) (xs : List ℕ) (σ : State) (t : List ℕ) : Type 0 where
  pub left : State
  pub ran : RanOn V xs (operation_count xs) σ left t

-- the code of each number
abbrev pub coding_of : ℕ → Coding
coding_of n = cond (n == 0) pq (cond (n == 1) (rdp 17 32) (evenodd 17 32))

-- A replay of the script xs with the code C: the recorder's members for xs are formatted, which leaves all slots idle with all stripes in
-- them; t are the lines of the script's operations; and of the log of all their calls, from the format on, the whole promise holds. What
-- the members may do within their rules is free here.
pub record Replayed (C : Coding) (xs t : List ℕ) : Type 0 where
  pub formatted : State
  pub zeroed : FormatChanges (recorder_shape C xs) (blank_members xs) formatted.members
  pub idle : (i : ℕ) → i < (recorder_shape C xs).slots → formatted.records i ≡ idle_at (recorder_shape C xs).stripes
  pub log : List Event
  pub left : State
  pub ran : Ran (recorder_shape C xs).stripes xs (operation_count xs) log t
  pub kept : Kept (recorder_shape C xs) formatted log left
