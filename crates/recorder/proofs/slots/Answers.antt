use Rattle.std.proofs.Common.{vec_items, ap, ◌∙◌}
use Rattle.member.specs.Runs.{cell_meaning}
use Rattle.recorder.specs.Slots.{slot_meaning}
use Rattle.recorder.proofs.Planning.{link_eq}
use Rattle.recorder.proofs.slots.Goals as goal

pub returns : goal.returns
returns c =
    let xs = vec_items c.args.script.now.bytes in
    record {
      made =
          rw c.link-3.ensures.linked (rw c.link-2.ensures.linked (rw c.link.ensures.linked (
          link_eq _ _ _ _ (c.stack-slot_0.ensures.meaning ∙ ap (λ v. slot_meaning (cell_meaning v) xs 0) c.new.ensures.state)
          (link_eq _ _ _ _ (c.stack-slot_1.ensures.meaning ∙ ap (λ v. slot_meaning (cell_meaning v) xs 1) c.new-2.ensures.state)
          (link_eq _ _ _ _ (c.stack-slot_2.ensures.meaning ∙ ap (λ v. slot_meaning (cell_meaning v) xs 2) c.new-3.ensures.state)
          c.in_ok-from_3.ensures.made)))));
    }
