use Rattle.std.proofs.Common.{◌<◌, ◌≤◌, arith}
use Rattle.contents.specs.Changes.{ScrubChanges}
use Rattle.contents.proofs.Keeping.{scrubs}
use Rattle.contents.proofs.Losing.{losses}
use Rattle.volume.specs.Grids.{grid_shape, grid_frontiers}
use Rattle.volume.specs.Slots.{members_in}
use Rattle.volume.specs.Volumes.{members}
use Rattle.volume.proofs.Answering.{volume_valid, as_volume, scrub_beyond, scrub_within}
use Rattle.volume.proofs.volume.Volume.scrub.Goals as goal

pub returns-then-stripe-grid-clause-changes : goal.returns-then-stripe-grid-clause-changes
returns-then-stripe-grid-clause-changes g c =
    let M = members g.B.Bank c.args.self.now in
    let x = c.of-grid.result in
    let beyond : x.size.stripes ≤ c.args.stripe = omega (arith, c.if-stripe-grid.true) in
    as_volume g.C.Code g.L.Layout x c.args.self.now c.of-grid.ensures.code c.of-grid.ensures.layout c.of-grid.ensures.size c.of-grid.ensures.table
    (λ V F. ScrubChanges V M F c.args.stripe M)
    (scrub_beyond (grid_shape g.C.Code g.L.Layout x) M (grid_frontiers x) c.args.stripe beyond)

pub returns-then-stripe-grid-clause-right : goal.returns-then-stripe-grid-clause-right
returns-then-stripe-grid-clause-right g c =
    let valid = volume_valid g.C.Code g.L.Layout g.met.C.Code.lawful g.met.L.Layout.lawful c.args.self.now in
    λ room. scrubs _ valid _ _ room _ _ (returns-then-stripe-grid-clause-changes g c)

pub returns-then-stripe-grid-clause-loss : goal.returns-then-stripe-grid-clause-loss
returns-then-stripe-grid-clause-loss g c = losses _ _ _

pub returns-clause-changes : goal.returns-clause-changes
returns-clause-changes g c =
    let M = members g.B.Bank c.args.self.now in
    let N = members_in g.B.Bank c.scrub_stripe.new.bank in
    let x = c.of-grid.result in
    let within : c.args.stripe < x.size.stripes = omega (arith, c.if-stripe-grid.false) in
    as_volume g.C.Code g.L.Layout x c.args.self.now c.of-grid.ensures.code c.of-grid.ensures.layout c.of-grid.ensures.size c.of-grid.ensures.table
    (λ V F. ScrubChanges V M F c.args.stripe N)
    (scrub_within (grid_shape g.C.Code g.L.Layout x) M (grid_frontiers x) c.args.stripe within N c.scrub_stripe.result c.scrub_stripe.ensures.scrubbed)

pub returns-clause-right : goal.returns-clause-right
returns-clause-right g c =
    let valid = volume_valid g.C.Code g.L.Layout g.met.C.Code.lawful g.met.L.Layout.lawful c.args.self.now in
    λ room. scrubs _ valid _ _ room _ _ (returns-clause-changes g c)

pub returns-clause-loss : goal.returns-clause-loss
returns-clause-loss g c = losses _ _ _
