use Rattle.recovery.proofs.Parts.{mixed_kept}
use Rattle.recovery.proofs.sums.add_mixed.Goals as goal

pub returns-then-not-takes_mixed-clause-after : goal.returns-then-not-takes_mixed-clause-after
returns-then-not-takes_mixed-clause-after g c =
    rw (← c.takes_mixed.ensures.value) (mixed_kept c.takes_mixed.result (g.C.Code.coding c.args.code.now) c.args.k c.args.t c.args.block.now c.args.mixed.now c.told-mixed c.then-not-takes_mixed.either)
