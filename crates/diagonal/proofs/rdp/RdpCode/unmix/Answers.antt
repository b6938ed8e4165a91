use Rattle.std.proofs.Common.{arith}
use Rattle.prime.proofs.Laws.{differ_one}
use Rattle.diagonal.specs.Facts.{sizes_of}
use Rattle.diagonal.proofs.rdp.RdpCode.unmix.Goals as goal

pub solve_pair-requires : goal.solve_pair-requires
solve_pair-requires c =
    let g = c.args.self.now.grid in
    record {
      some = omega (arith, c.in_ok-check_column.ensures.below);
      low = omega arith;
      other = omega (arith, (sizes_of g).big);
      apart = differ_one g.prime g.indivisible c.args.j (omega (arith, c.in_ok-check_column.ensures.below));
    }
