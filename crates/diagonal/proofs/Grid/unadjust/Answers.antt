use Rattle.std.proofs.Common.{replicate, refl, arith}
use Rattle.diagonal.specs.Facts.{sizes_of}
use Rattle.prime.proofs.Repeats.{sum_everywhere, length_row, byte_of_zeros}
use Rattle.diagonal.proofs.Grid.unadjust.Goals as goal

pub row-requires : goal.row-requires
row-requires c = record { within = omega (arith, (sizes_of c.args.self.now).short, c.sum_rows.auto.into) }

pub repeat-requires : goal.repeat-requires
repeat-requires c = record {
  sized = length_row c.args.self.now.width 0 c.sum_rows.new.into c.row.result.now (omega (arith, (sizes_of c.args.self.now).short, c.sum_rows.auto.into)) c.row.ensures.value;
}

pub returns : goal.returns
returns c = record {
  after = sum_everywhere c.args.self.now.prime c.args.self.now.width 512 (sizes_of c.args.self.now) c.args.buffer.now (replicate 512 0) c.sum_rows.new.into c.row.result.now c.repeat.result c.xor_run.new.into
      c.told-buffer refl (byte_of_zeros 512) c.sum_rows.ensures.after c.row.ensures.value c.repeat.ensures.value c.xor_run.ensures.after;
}
