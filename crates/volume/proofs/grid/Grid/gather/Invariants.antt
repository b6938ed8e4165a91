use Rattle.std.proofs.Common.{◌≡◌, cond}
use Rattle.code.specs.Blocks.{zeros}
use Rattle.parity.specs.Stripe.{plain_sum, mixed_sum}
use Rattle.parity.specs.Ways.{takes_plain, takes_mixed}
use Rattle.volume.specs.Grids.{width, columns_on}
use Rattle.volume.specs.Slots.{slots_in}
use Rattle.volume.proofs.grid.Grid.gather.Given as goal

abbrev pub invariant-loop-t : goal.invariant-loop-t
invariant-loop-t g l =
    (slots_in g.B.Bank l.bank ≡ slots_in g.B.Bank l.initial.bank)
    × (l.plain ≡ cond (takes_plain l.way) (plain_sum (width l.self) (columns_on g.L.Layout l.self (slots_in g.B.Bank l.initial.bank) l.s) l.t) zeros)
    × (l.mixed ≡ cond (takes_mixed l.way) (mixed_sum (g.C.Code.coding l.self.code.now) (width l.self) (columns_on g.L.Layout l.self (slots_in g.B.Bank l.initial.bank) l.s) l.t) zeros)
