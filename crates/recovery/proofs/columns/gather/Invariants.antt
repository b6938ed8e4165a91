use Rattle.std.proofs.Common.{◌≡◌, cond, length}
use Rattle.code.specs.Blocks.{block_size, zeros}
use Rattle.parity.specs.Stripe.{plain_sum, mixed_sum}
use Rattle.parity.specs.Ways.{takes_plain, takes_mixed}
use Rattle.recovery.proofs.columns.gather.Given as goal

abbrev pub invariant-loop-t : goal.invariant-loop-t
invariant-loop-t g l = record {
  long : (length l.plain ≡ block_size) × (length l.mixed ≡ block_size);
  plain : l.plain ≡ cond (takes_plain l.way) (plain_sum l.k (g.S.AtHand.held l.columns) l.t) zeros;
  mixed : l.mixed ≡ cond (takes_mixed l.way) (mixed_sum (g.C.Code.coding l.code) l.k (g.S.AtHand.held l.columns) l.t) zeros;
}
