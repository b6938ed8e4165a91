use Rattle.std.proofs.Common.{arith}
use Rattle.code.proofs.Loops.{half_onto}
use Rattle.code.proofs.xor.xor_run.Goals as goal

pub returns : goal.returns
returns c = record { after = half_onto c.args.into.now c.args.from.now c.loop-i.into c.loop-i.i (omega arith) c.loop-i.invariant }
