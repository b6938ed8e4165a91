use Rattle.code.proofs.Blocks.{bytes_zeros}
use Rattle.member.proofs.cell.Cell.new.Goals as goal

pub invariant_of-result-clause-low : goal.invariant_of-result-clause-low
invariant_of-result-clause-low c = bytes_zeros 4096
