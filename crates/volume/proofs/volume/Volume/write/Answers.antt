use Rattle.std.proofs.Common.{◌≡◌, ℕ, ◌<◌, length, refl, subst, rules, arith}
use Rattle.code.specs.Blocks.{block_size}
use Rattle.contents.proofs.Writing.{writes}
use Rattle.contents.proofs.Losing.{losses}
use Rattle.contents.specs.Changes.{WriteChanges}
use Rattle.volume.specs.Grids.{grid_shape, grid_frontiers}
use Rattle.volume.specs.Slots.{members_in}
use Rattle.volume.specs.Volumes.{members, frontiers}
use Rattle.volume.proofs.Answering.{volume_valid, as_volume, write_within}
use Rattle.volume.proofs.volume.Volume.write.Goals as goal

pub returns-in_err-bytes-clause-loss : goal.returns-in_err-bytes-clause-loss
returns-in_err-bytes-clause-loss g c = losses _ _ _

pub returns-then-block-blocks-clause-loss : goal.returns-then-block-blocks-clause-loss
returns-then-block-blocks-clause-loss g c = losses _ _ _

pub returns-clause-changes : goal.returns-clause-changes
returns-clause-changes g c =
    let M = members g.B.Bank c.args.self.now in
    let N = members_in g.B.Bank c.write_column.new.bank in
    let x = c.of-grid.result in
    let below : c.args.block < c.blocks-2.result = omega (arith, c.if-block-blocks.false) in
    let within = subst (λ (y : ℕ). c.args.block < y) c.blocks-2.ensures.value below in
    let same : c.in_ok-bytes.bytes.now ≡ c.args.bytes.now = search (rules, c.as_array.ensures.cases, c.in_ok-bytes.ensures.ok_part) in
    let long : length c.args.bytes.now ≡ block_size = search (rules, c.as_array.ensures.cases, c.in_ok-bytes.ensures.ok_part) in
    as_volume g.C.Code g.L.Layout x c.args.self.now c.of-grid.ensures.code c.of-grid.ensures.layout c.of-grid.ensures.size c.of-grid.ensures.table
    (λ V F. WriteChanges V M F c.args.block c.args.bytes.now N)
    (write_within (grid_shape g.C.Code g.L.Layout x) M (grid_frontiers x) c.args.block c.args.bytes.now long within N c.write_column.result (rw same at c.write_column.ensures.written))

pub returns-clause-right : goal.returns-clause-right
returns-clause-right g c =
    let v = c.args.self.now in
    let N = members_in g.B.Bank c.write_column.new.bank in
    let valid = volume_valid g.C.Code g.L.Layout g.met.C.Code.lawful g.met.L.Layout.lawful v in
    λ room. writes _ valid (members g.B.Bank v) (frontiers v) room c.args.block _ N (record { long = refl; bytes = λ i. (c.type_inv.bytes i).fits }) (returns-clause-changes g c)

pub returns-clause-loss : goal.returns-clause-loss
returns-clause-loss g c = losses _ _ _
