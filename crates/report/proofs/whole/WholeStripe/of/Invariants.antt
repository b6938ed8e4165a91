use Rattle.std.proofs.Common.{◌≡◌, take}
use Rattle.report.proofs.whole.WholeStripe.of.Given as goal

abbrev pub invariant-loop-block : goal.invariant-loop-block
invariant-loop-block g l = l.columns.items ≡ take l.block-index l.blocks
