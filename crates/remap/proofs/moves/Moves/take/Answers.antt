use Rattle.std.proofs.Common.{arith}
use Rattle.std.proofs.lemmas.Grind.{common_steps}
use Rattle.remap.specs.Tables.{length_newest, newest_push}
use Rattle.remap.proofs.moves.Moves.take.Goals as goal

pub returns-then-self : goal.returns-then-self
returns-then-self c = let n = length_newest c.args.self.now.from c.args.self.now.used in record { value = grind (arith, common_steps, n); after = grind (arith, common_steps, n) }

pub returns : goal.returns
returns c =
    let n = length_newest c.args.self.now.from c.args.self.now.used in
    let p = newest_push c.args.self.now.from c.args.self.now.used c.args.block (omega arith) in
    record { value = grind (arith, common_steps, n); after = grind (arith, common_steps, n, p) }
