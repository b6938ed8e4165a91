use Rattle.faultplan.proofs.Events.{fresh_clears, ended_stays}
use Rattle.faultplan.proofs.plan.ended_for_good.Goals as goal

pub returns : goal.returns
returns c = record { theorem = (fresh_clears, ended_stays) }
