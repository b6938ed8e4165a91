use Rattle.std.proofs.Common.{◌≤◌, sym, arith}
use Rattle.member.specs.Meaning.{most_blocks}
use Rattle.contents.proofs.Forming.{smallest_few}
use Rattle.volume.specs.Slots.{members_in}
use Rattle.volume.proofs.Formatting.{fitting_of}
use Rattle.volume.proofs.size.parts_size.Goals as goal

pub returns-clause-fitting : goal.returns-clause-fitting
returns-clause-fitting g c =
    let few : c.smallest_count-stripes.result ≤ most_blocks = omega (arith, c.smallest_count-stripes.ensures.value, smallest_few (members_in g.B.Bank c.args.bank.now) c.len-slots.result) in
    rw (← c.limit.ensures.value) (fitting_of c.limit.result _ _ (sym c.if-not-fits.ensures.value) few)
