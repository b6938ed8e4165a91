use Rattle.std.proofs.Common.{arith}
use Rattle.layout.specs.Turns.{slot_ahead, slot_around}
use Rattle.layout.proofs.RotatingLayout.slot_of.Goals as goal

pub returns-then-c-n-2 : goal.returns-then-c-n-2
returns-then-c-n-2 c = record { value = slot_ahead c.args.n c.args.s c.args.c (omega arith) (omega arith) }

pub returns-else-c-n-2 : goal.returns-else-c-n-2
returns-else-c-n-2 c = record { value = slot_around c.args.n c.args.s c.args.c (omega arith) (omega arith) }
