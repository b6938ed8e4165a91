-- What a line says of a call.
use Rattle.std.specs.Prelude.{ℕ, List, ◌++◌, Some, None, Ok, Err, codes, decimal, Option, Result}
use Rattle.member.specs.Faults.{Refusal, fault_text}

-- 0 for a call that was accepted, else its fault
abbrev pub answer_text : Option Refusal → List ℕ
answer_text None = codes "0"
answer_text (Some f) = fault_text f

-- the line of a call on the member in a slot, by the call's name
abbrev pub answer_line : ℕ → List ℕ → Option Refusal → List ℕ
answer_line slot name refused = codes "slot " ++ (decimal slot ++ (codes " " ++ (name ++ (codes ": " ++ (answer_text refused ++ codes "\n")))))

-- what a line says of a call: 0 where it was accepted, else the text of its refusal
abbrev pub answer_output : {E : Type 0} → (E → Option (List ℕ)) → Result Unit E → Option (List ℕ)
answer_output text (Ok u) = Some (codes "0")
answer_output text (Err e) = text e

-- an entry of round, kind and block, and 0 or the number of the refusal
abbrev pub add_line : ℕ → ℕ → ℕ → ℕ → List ℕ
add_line round kind block answer =
    codes "add " ++ (decimal round ++ (codes " " ++ (decimal kind ++ (codes " " ++ (decimal block ++ (codes ": " ++ (decimal answer ++ codes "\n")))))))
