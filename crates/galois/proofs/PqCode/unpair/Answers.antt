use Rattle.std.proofs.Common.{◌≡◌, ℕ, ◌<◌, map, ap, ◌∙◌, ap₂, rules}
use mathlib.Core.Path.{subst⁻¹}
use lib.Bits.{bit_xor}
use Rattle.field.specs.Field.{times, inverse}
use Rattle.field.specs.Mixing.{unpaired}
use Rattle.field.proofs.Logs.{sum_pos}
use Rattle.galois.proofs.PqCode.unpair.Goals as goal

pub inverse_of-requires : goal.inverse_of-requires
inverse_of-requires c = record {
  nonzero =
      subst⁻¹ (λ (n : ℕ). 0 < n) (ap₂ bit_xor c.power_of.ensures.value c.power_of-2.ensures.value)
      (sum_pos c.args.i c.args.j c.in_ok-check_pair.ensures.first c.in_ok-check_pair.ensures.second c.in_ok-check_pair.ensures.apart);
}

pub returns-clause-after : goal.returns-clause-after
unfolding unpaired
returns-clause-after c =
    let same : c.in_ok-buffer.buffer.now ≡ c.args.buffer.now = search (rules, c.as_mut_array.ensures.cases, c.in_ok-buffer.ensures.ok_part) in
    c.scale.ensures.after ∙ ap (map (times c.inverse_of.result)) same
    ∙ ap (λ x. map (times x) c.args.buffer.now)
    (c.inverse_of.ensures.value ∙ ap inverse (ap₂ bit_xor c.power_of.ensures.value c.power_of-2.ensures.value))
