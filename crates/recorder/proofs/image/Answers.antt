use Rattle.std.proofs.Common.{◌≡◌, replicate, vec_items, ap, ◌∙◌, rules}
use Rattle.member.specs.Runs.{image_meaning}
use Rattle.recorder.specs.Slots.{slot_meaning}
use Rattle.recorder.proofs.image.Goals as goal

pub returns : goal.returns
returns c =
    let xs = vec_items c.args.script.now.bytes in
    let z : vec_items c.in_ok-zeros.zeros ≡ replicate 4096 0 = search rules in
    record { made = c.stack.ensures.meaning ∙ ap (λ v. slot_meaning (image_meaning v) xs c.args.slot) (ap vec_items c.new.ensures.state ∙ z) }
