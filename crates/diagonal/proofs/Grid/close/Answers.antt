use Rattle.std.proofs.Common.{replicate, refl, ◌∙◌, arith}
use Rattle.diagonal.specs.Facts.{sizes_of}
use Rattle.prime.proofs.Repeats.{closes, length_row, byte_of_zeros}
use Rattle.diagonal.proofs.Grid.close.Goals as goal

pub row-requires : goal.row-requires
row-requires c = record { within = omega (arith, (sizes_of c.args.self.now).short, c.sum_rows.auto.into) }

pub put_row-requires : goal.put_row-requires
put_row-requires c = record {
  sized = length_row c.args.self.now.width 0 c.sum_rows.new.into c.row.result.now (omega (arith, (sizes_of c.args.self.now).short, c.sum_rows.auto.into)) c.row.ensures.value;
  within = omega (arith, (sizes_of c.args.self.now).short, c.args.self.now.whole, c.xor_run.auto.into);
}

pub returns : goal.returns
returns c = record {
  long = c.put_row.auto.block ∙ c.xor_run.auto.into;
  cells = closes c.args.self.now.prime c.args.self.now.width 512 1024 (sizes_of c.args.self.now) c.args.block.now (replicate 512 0) c.sum_rows.new.into c.row.result.now (replicate 1024 0) c.xor_run.new.into c.put_row.new.block
      c.told-block refl (byte_of_zeros 512) refl (byte_of_zeros 1024) (omega (arith, (sizes_of c.args.self.now).short)) c.sum_rows.ensures.after c.row.ensures.value c.xor_run.ensures.after c.put_row.ensures.after;
}
