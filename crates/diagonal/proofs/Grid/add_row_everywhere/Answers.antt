use Rattle.std.proofs.Common.{arith}
use Rattle.diagonal.specs.Facts.{sizes_of}
use Rattle.prime.proofs.Repeats.{row_everywhere, no_row_everywhere, length_row}
use Rattle.diagonal.proofs.Grid.add_row_everywhere.Goals as goal

pub row-requires : goal.row-requires
row-requires c = record { within = omega (arith, (sizes_of c.args.self.now).within c.args.r c.if-r-self.true) }

pub repeat-requires : goal.repeat-requires
repeat-requires c = record {
  sized = length_row c.args.self.now.width c.args.r c.args.source.now c.row.result.now (omega (arith, (sizes_of c.args.self.now).within c.args.r c.if-r-self.true)) c.row.ensures.value;
}

pub returns-then-r-self : goal.returns-then-r-self
returns-then-r-self c = record {
  after = row_everywhere c.args.self.now.prime c.args.self.now.width 512 (sizes_of c.args.self.now) c.args.r c.args.source.now c.row.result.now c.repeat.result c.args.into.now c.xor_run.new.into
      c.told-into c.row.ensures.value c.repeat.ensures.value c.xor_run.ensures.after;
}

pub returns-else-r-self : goal.returns-else-r-self
returns-else-r-self c = record {
  after = no_row_everywhere c.args.self.now.prime c.args.self.now.width 512 (sizes_of c.args.self.now) c.args.r c.args.source.now c.args.into.now c.told-source c.told-into c.if-r-self.false;
}
