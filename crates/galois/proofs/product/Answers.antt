use Rattle.std.proofs.Common.{◌+◌, sym, ap, ◌∙◌, ap₂, inl, inr, arith}
use Rattle.field.specs.Field.{times, power, log}
use Rattle.field.proofs.Powers.{times_zero, zero_times, times_powers}
use Rattle.field.proofs.Logs.{log_lt, power_log}
use Rattle.galois.proofs.product.Goals as goal

pub returns-then-a-eq0 : goal.returns-then-a-eq0
returns-then-a-eq0 c = record {
  value = elim c.then-a-eq0.either [
    | inl a ↦ sym (ap (λ x. times x c.args.b) a ∙ zero_times c.args.b)
    | inr b ↦ sym (ap (times c.args.a) b.1 ∙ times_zero c.args.a)
  ];
}

pub overflow_add-log_of : goal.overflow_add-log_of
overflow_add-log_of c = record { fits = omega (arith, log_lt c.args.a, log_lt c.args.b) }

pub returns : goal.returns
returns c =
    let a = c.args.a in
    let b = c.args.b in
    record {
      value =
          c.power_of.ensures.value ∙ ap₂ (λ m n. power (m + n)) c.log_of.ensures.value c.log_of-2.ensures.value
          ∙ sym (times_powers (log a) (log b))
          ∙ ap₂ times (power_log a (omega arith) c.ranges.a.fits) (power_log b (omega arith) c.ranges.b.fits);
    }
