use Rattle.std.proofs.Common.{arith}
use Rattle.layout.specs.Turns.{column_around, column_ahead}
use Rattle.layout.proofs.RotatingLayout.column_of.Goals as goal

pub returns-then-i-turn : goal.returns-then-i-turn
returns-then-i-turn c = record { value = column_around c.args.n c.args.s c.args.i (omega arith) (omega arith) }

pub returns-else-i-turn : goal.returns-else-i-turn
returns-else-i-turn c = record { value = column_ahead c.args.n c.args.s c.args.i (omega arith) (omega arith) }
