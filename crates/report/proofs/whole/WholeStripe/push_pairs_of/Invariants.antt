use Rattle.std.proofs.Common.{◌≡◌, ◌+◌, ◌-◌, ◌++◌, string_bytes}
use Rattle.report.specs.Text.{lines_with}
use Rattle.report.proofs.whole.WholeStripe.push_pairs_of.Given as goal

abbrev pub invariant-loop-j : goal.invariant-loop-j
invariant-loop-j g l = string_bytes l.out ≡ string_bytes l.initial.out ++ lines_with l.i (l.i + 1) (l.j - (l.i + 1))
