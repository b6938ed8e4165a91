use Rattle.std.proofs.Common.{refl}
use Rattle.recorder.proofs.Planning.{link_eq}
use Rattle.recorder.proofs.images.Goals as goal

pub returns : goal.returns
returns c =
    record {
      made =
          rw c.link-3.ensures.linked (rw c.link-2.ensures.linked (rw c.link.ensures.linked (
          link_eq _ _ _ _ c.in_ok-slot_3.ensures.made
          (link_eq _ _ _ _ c.in_ok-slot_4.ensures.made (link_eq _ _ _ _ c.in_ok-slot_5.ensures.made refl)))));
    }
