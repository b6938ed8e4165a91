use Rattle.std.proofs.Common.{◌-◌, ap, ◌∙◌, arith}
use Rattle.field.specs.Field.{power, inverse}
use Rattle.field.proofs.Logs.{log_lt}
use Rattle.galois.proofs.inverse_of.Goals as goal

pub overflow_sub-log_of : goal.overflow_sub-log_of
overflow_sub-log_of c = omega (arith, log_lt c.args.b)

pub returns : goal.returns
unfolding inverse
returns c = record { value = c.power_of.ensures.value ∙ ap (λ n. power (255 - n)) c.log_of.ensures.value }
