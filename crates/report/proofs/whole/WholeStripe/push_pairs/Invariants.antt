use Rattle.std.proofs.Common.{◌≡◌, ◌++◌, length, string_bytes}
use Rattle.report.specs.Text.{lines_below}
use Rattle.report.proofs.whole.WholeStripe.push_pairs.Given as goal

abbrev pub invariant-loop-i : goal.invariant-loop-i
invariant-loop-i g l = string_bytes l.out ≡ string_bytes l.initial.out ++ lines_below (length l.self.columns.items) l.i
