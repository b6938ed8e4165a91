use Rattle.std.proofs.Common.{ℕ, is_some, sym, ap, ◌∙◌}
use Rattle.contents.specs.Columns.{is_current, held}
use Rattle.contents.proofs.Statuses.{current_is}
use Rattle.volume.proofs.Surveying.{current_eq}
use Rattle.volume.specs.Grids.{grid_frontiers}
use Rattle.volume.specs.Slots.{members_in}
use Rattle.volume.proofs.grid.Grid.has.Goals as goal

pub returns : goal.returns
returns g c =
    let M = members_in g.B.Bank c.args.bank.now in
    let F = grid_frontiers c.args.self.now in
    record {
      value = c.eq.ensures ∙ current_eq c.status.result ∙ ap is_current c.status.ensures.value ∙ sym (current_is M F c.args.s c.slot_of-slot.result)
          ∙ ap (λ (i : ℕ). is_some (held M F c.args.s i)) c.slot_of-slot.ensures.value;
    }
