use Rattle.std.proofs.Common.{◌≡◌, ap, ◌∙◌, arith, rules}
use Rattle.prime.specs.Diagonals.{evenodd}
use Rattle.prime.proofs.Laws.{differ_pair}
use Rattle.prime.proofs.Mixings.{evenodd_unpaired}
use Rattle.diagonal.specs.Facts.{sizes_of}
use Rattle.diagonal.proofs.evenodd.EvenOddCode.unpair.Goals as goal

pub solve_pair-requires : goal.solve_pair-requires
solve_pair-requires c =
    let g = c.args.self.now.grid in
    record {
      some = omega (arith, c.in_ok-check_pair.ensures.first);
      low = omega arith;
      other = omega arith;
      apart = differ_pair g.prime g.indivisible c.args.i c.args.j (omega (arith, c.in_ok-check_pair.ensures.first)) (omega (arith, c.in_ok-check_pair.ensures.second)) c.in_ok-check_pair.ensures.apart;
    }

pub returns-clause-after : goal.returns-clause-after
returns-clause-after c =
    let g = c.args.self.now.grid in
    let b = c.in_ok-buffer.buffer.now in
    let same : b ≡ c.args.buffer.now = search (rules, c.as_mut_array.ensures.cases, c.in_ok-buffer.ensures.ok_part) in
    evenodd_unpaired g.prime g.width 512 (sizes_of g) c.args.i c.args.j b c.unadjust.new.buffer c.solve_pair.new.buffer c.unadjust.ensures.after c.solve_pair.ensures.after
    ∙ ap ((evenodd g.prime g.width).unpair c.args.i c.args.j) same
