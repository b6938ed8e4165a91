-- What a replay writes.
use Rattle.std.specs.Prelude.{ℕ, List, ◌++◌, codes, decimal}
use Rattle.script.specs.declared.line.Line.{Line}

-- what stands in the line of an operation: its position, its number, its refusal or 0, and its value
abbrev pub line_words : Line → List ℕ
line_words l = decimal l.position ++ (codes " " ++ (decimal l.operation ++ (codes " " ++ (decimal l.refusal ++ (codes " " ++ decimal l.value)))))

-- the line of an operation: its position, its number, its refusal or 0, and its value, one space between
abbrev pub line_text : Line → List ℕ
line_text l =
    decimal l.position
    ++ (codes " " ++ (decimal l.operation ++ (codes " " ++ (decimal l.refusal ++ (codes " " ++ (decimal l.value ++ codes "\n"))))))

-- what is said of bytes that are no script
abbrev pub bad_script_words : List ℕ
bad_script_words = codes "bad script"

-- all that is written of what is no script
abbrev pub bad_script : List ℕ
bad_script = codes "bad script\n"
