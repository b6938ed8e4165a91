use Rattle.std.proofs.Common.{◌+◌, ◌-◌, ◌*◌, sym, arith}
use Rattle.std.proofs.lemmas.Slice.{put_mid-paste}
use Rattle.diagonal.proofs.Grid.put_row.Goals as goal

pub returns : goal.returns
returns c = record {
  after = put_mid-paste (c.args.k * c.args.self.now.width) (c.args.k * c.args.self.now.width + c.args.self.now.width - c.args.k * c.args.self.now.width) c.args.block.now c.copy_from_slice.new.self c.args.row.now c.args.self.now.width
      c.copy_from_slice.ensures.after (omega arith) (sym c.requires.sized);
}
