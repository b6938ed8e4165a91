use Rattle.std.proofs.Common.{sym, subst, arith}
use Rattle.std.proofs.lemmas.Grind.{common_steps}
use Rattle.bank.specs.Changes.{SlotWritten}
use Rattle.shelf.specs.Shelves.{shelved, shelf_meaning}
use Rattle.shelf.specs.ShelvesLemmas.{shelf_writes}
use Rattle.shelf.proofs.ShelfBank.write.Goals as goal

pub returns-clause-exact : goal.returns-clause-exact
returns-clause-exact c = grind (arith, common_steps)

pub returns-clause-after : goal.returns-clause-after
returns-clause-after c =
    let s = shelved c.args.self.now.buffer.items c.args.self.now.images in
    subst (λ t. SlotWritten (shelf_meaning s) c.args.slot c.args.block c.args.bytes.now (shelf_meaning t)) (sym (returns-clause-exact c))
    (shelf_writes s c.args.slot c.args.block c.args.bytes.now)

pub returns-in_err-write_in-clause-exact : goal.returns-in_err-write_in-clause-exact
returns-in_err-write_in-clause-exact c = grind (arith, common_steps)

pub returns-in_err-write_in-clause-after : goal.returns-in_err-write_in-clause-after
returns-in_err-write_in-clause-after c =
    let s = shelved c.args.self.now.buffer.items c.args.self.now.images in
    subst (λ t. SlotWritten (shelf_meaning s) c.args.slot c.args.block c.args.bytes.now (shelf_meaning t))
    (sym (returns-in_err-write_in-clause-exact c)) (shelf_writes s c.args.slot c.args.block c.args.bytes.now)
