use Rattle.std.proofs.Common.{◌≡◌, ◌++◌, string_bytes}
use Rattle.products.specs.Texts.{row}
use Rattle.products.proofs.push_line.Given as goal

abbrev pub invariant-loop-b : goal.invariant-loop-b
invariant-loop-b l = string_bytes l.text ≡ string_bytes l.initial.text ++ row l.a l.b
