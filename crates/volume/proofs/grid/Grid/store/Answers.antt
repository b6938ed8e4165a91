use Rattle.std.proofs.Common.{ℕ, sym, subst}
use Rattle.contents.specs.Changes.{Moved, Put, due}
use Rattle.volume.proofs.Walking.{written_moved}
use Rattle.volume.proofs.Storing.{stored_below, stored_beyond}
use Rattle.volume.specs.Grids.{grid_frontiers}
use Rattle.volume.specs.Slots.{members_in}
use Rattle.volume.proofs.grid.Grid.store.Goals as goal

pub returns-then-has : goal.returns-then-has
returns-then-has g c =
    let M = members_in g.B.Bank c.args.bank.now in
    let N = members_in g.B.Bank c.write.new.self in
    let F = grid_frontiers c.args.self.now in
    let s = c.args.s in
    let v = c.args.bytes.now in
    record {
      stored = subst (λ (i : ℕ). Moved (Put (due M F s i) s v) i M N) c.slot_of-slot.ensures.value
          (stored_below M F s c.slot_of-slot.result v N (sym c.if-has.ensures.value) (written_moved s v _ _ _ c.write.ensures.after));
    }

pub returns-else-has : goal.returns-else-has
returns-else-has g c =
    let M = members_in g.B.Bank c.args.bank.now in
    let F = grid_frontiers c.args.self.now in
    let s = c.args.s in
    let v = c.args.bytes.now in
    record {
      stored = subst (λ (i : ℕ). Moved (Put (due M F s i) s v) i M M) c.slot_of-slot.ensures.value (stored_beyond M F s c.slot_of-slot.result v (sym c.if-has.ensures.value));
    }
