use Rattle.std.proofs.Common.{subst}
use Rattle.member.specs.Changes.{Ticked}
use Rattle.contents.specs.Changes.{Steps, Moved}
use Rattle.contents.proofs.Keeping.{ticks}
use Rattle.volume.specs.declared.size.Size.{Size}
use Rattle.volume.specs.Slots.{members_in}
use Rattle.volume.specs.Volumes.{members, frontiers}
use Rattle.volume.proofs.Answering.{volume_valid}
use Rattle.volume.proofs.volume.Volume.tick.Goals as goal

pub returns-clause-right : goal.returns-clause-right
returns-clause-right g c =
    let v = c.args.self.now in
    let M = members g.B.Bank v in
    let N = members_in g.B.Bank c.tick_slots.new.bank in
    let valid = volume_valid g.C.Code g.L.Layout g.met.C.Code.lawful g.met.L.Layout.lawful v in
    let steps = subst (λ (z : Size). Steps z.slots (λ i. Moved Ticked i) M N) c.size_with-size.ensures.value c.tick_slots.ensures.ticked in
    λ room. ticks _ valid M (frontiers v) room N steps
