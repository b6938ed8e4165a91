use Rattle.std.proofs.Common.{◌≡◌, ap, ◌∙◌, rules}
use Rattle.member.specs.Faults.{refused_with}
use Rattle.bank.specs.Slots.{bank_refusal}
use Rattle.volume.proofs.Looking.{gone_tells}
use Rattle.volume.proofs.members.is_gone.Goals as goal

pub returns : goal.returns
returns g c =
    let e : c.is_err_and.result ≡ refused_with 1 (bank_refusal c.look.result) = search rules in
    record { value = e ∙ ap (refused_with 1) c.look.ensures.answered ∙ gone_tells _ _ }
