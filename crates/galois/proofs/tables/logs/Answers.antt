use Rattle.std.proofs.Common.{refl}
use Rattle.field.specs.Terms.{shifts}
use Rattle.field.proofs.Tables.{log_table}
use Rattle.galois.proofs.tables.logs.Goals as goal

pub returns : goal.returns
unfolding shifts
returns c = record { value = log_table _ refl refl }
