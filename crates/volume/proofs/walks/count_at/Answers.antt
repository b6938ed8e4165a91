use Rattle.std.proofs.Common.{◌∙◌}
use Rattle.volume.specs.Slots.{slots_in}
use Rattle.volume.proofs.Walking.{count_told}
use Rattle.volume.proofs.walks.count_at.Goals as goal

pub returns : goal.returns
returns g c = record { value = c.unwrap_or.ensures ∙ count_told (slots_in g.B.Bank c.args.bank.now) c.args.slot c.count.result c.count.ensures.answered c.count.ensures.value }
