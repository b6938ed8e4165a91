use Rattle.std.proofs.Common.{arith}
use Rattle.prime.proofs.Laws.{differ_pair}
use Rattle.diagonal.proofs.rdp.RdpCode.unpair.Goals as goal

pub solve_pair-requires : goal.solve_pair-requires
solve_pair-requires c =
    let g = c.args.self.now.grid in
    record {
      some = omega (arith, c.in_ok-check_pair.ensures.first);
      low = omega arith;
      other = omega arith;
      apart = differ_pair g.prime g.indivisible c.args.i c.args.j (omega (arith, c.in_ok-check_pair.ensures.first)) (omega (arith, c.in_ok-check_pair.ensures.second)) c.in_ok-check_pair.ensures.apart;
    }
