use Rattle.std.proofs.Common.{ℕ, ◌+◌, subst}
use Rattle.contents.specs.Changes.{Moved, Put, due}
use Rattle.volume.specs.Grids.{grid_frontiers}
use Rattle.volume.specs.Slots.{members_in}
use Rattle.volume.proofs.grid.Grid.spread.Goals as goal

pub returns : goal.returns
returns g c =
    let place = g.L.Layout.slot c.args.self.now.layout.now c.args.self.now.size.slots c.args.s in
    let F = grid_frontiers c.args.self.now in
    let A = members_in g.B.Bank c.store-2.new.bank in
    let N = members_in g.B.Bank c.store-3.new.bank in
    let e = c.width-k.ensures.value in
    let A₀ = members_in g.B.Bank c.store.new.bank in
    record {
      stored = record {
        after_own = A₀;
        after_P = A;
        own = c.store.ensures.stored;
        P = subst (λ (t : ℕ). Moved (Put (due A₀ F c.args.s (place t)) c.args.s c.args.p.now) (place t) A₀ A) e c.store-2.ensures.stored;
        Q = subst (λ (t : ℕ). Moved (Put (due A F c.args.s (place (t + 1))) c.args.s c.args.q.now) (place (t + 1)) A N) e c.store-3.ensures.stored;
      };
    }
