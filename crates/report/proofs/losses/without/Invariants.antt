use Rattle.std.proofs.Common.{◌≡◌, ℕ, ◌<◌, [], length, get_or, Some}
use Rattle.recovery.specs.Columns.{columns_of}
use Rattle.report.proofs.losses.without.Given as goal

-- the columns before this one are there
abbrev pub invariant-loop-t : goal.invariant-loop-t
invariant-loop-t l = record {
  count : length l.left ≡ 18;
  filled : (u : ℕ) → u < l.t → columns_of l.left u ≡ Some (get_or l.columns u []);
}
