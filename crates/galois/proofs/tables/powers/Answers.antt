use Rattle.std.proofs.Common.{refl}
use Rattle.field.proofs.Tables.{power_table}
use Rattle.galois.proofs.tables.powers.Goals as goal

pub returns : goal.returns
returns c = record { value = power_table _ refl refl }
