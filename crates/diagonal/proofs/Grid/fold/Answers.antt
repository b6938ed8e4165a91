use Rattle.prime.proofs.Sizes.{fold_below, fold_above}
use Rattle.diagonal.proofs.Grid.fold.Goals as goal

pub returns-then-x-self : goal.returns-then-x-self
returns-then-x-self c = record { value = fold_below c.args.x c.args.self.now.prime c.if-x-self.true }

pub returns-else-x-self : goal.returns-else-x-self
returns-else-x-self c = record { value = fold_above c.args.x c.args.self.now.prime c.if-x-self.false c.requires.below }
