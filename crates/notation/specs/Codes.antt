-- The numbers of the codes.
use Rattle.std.specs.Prelude.{◌≡◌, ℕ, ◌<◌, Result, MatchResult}
use Rattle.notation.specs.declared.codes.CodeName.{CodeName}
use Rattle.notation.specs.declared.codes.CodeName.TheVariants.{Pq, Rdp, EvenOdd}
use Rattle.notation.specs.declared.codes.UnknownCode.{UnknownCode}

-- the number of each code
abbrev pub code_number : CodeName → ℕ
code_number Pq = 0
code_number Rdp = 1
code_number EvenOdd = 2

-- the code with this number; or there is none
abbrev pub CodeNamed : ℕ → Result CodeName UnknownCode → Type 0
CodeNamed n r = MatchResult r (λ name. code_number name ≡ n) (λ _. 2 < n)
