use Rattle.std.proofs.Common.{◌≡◌, length}
use Rattle.std.specs.Slice.Iter.{chunks_exact_rest, chunks_exact_size}
use Rattle.code.specs.Blocks.{onto}
use Rattle.prime.specs.Rows.{row_sums}
use Rattle.prime.proofs.Repeats.{Cut}
use Rattle.diagonal.proofs.Grid.sum_rows.Given as goal

abbrev pub invariant-loop-row : goal.invariant-loop-row
invariant-loop-row l = record {
  sums : l.into ≡ onto l.initial.into (row_sums l.self.width l.block (length l.yielded));
  cut : Cut l.self.width l.block (length l.yielded) (chunks_exact_rest l.row-iterator);
  size : chunks_exact_size l.row-iterator ≡ l.self.width;
}
