use Rattle.std.proofs.Common.{◌/◌, ◌<◌, ◌≤◌, length, Some, sym, refl, ap, ◌∙◌, arith}
use Rattle.member.specs.Faults.{numbers}
use Rattle.member.specs.Runs.{image_meaning}
use Rattle.shelf.specs.Shelves.{part}
use Rattle.shelf.specs.ShelvesLemmas.{part_count, below_share, beyond_share, block_found, block_beyond}
use Rattle.shelf.proofs.ShelfBank.look.Goals as goal
use Rattle.shelf.proofs.ShelfBank.look.Goals.{else-block-lt-MOST_BLOCKS-via-then-block-lt-MOST_BLOCKS+else-saturating_mul-len, else-block-lt-MOST_BLOCKS-via-else-block-lt-MOST_BLOCKS}

pub returns-then-saturating_mul-len : goal.returns-then-saturating_mul-len
returns-then-saturating_mul-len c =
    let xs = c.args.self.now.buffer.items in
    let n = c.args.self.now.images in
    let i = c.args.slot in
    let b = c.args.block in
    let there : i < n = c.in_ok-there.ensures.there in
    let count = part_count xs n i there in
    let share : b < (length xs / 512) / n =
    below_share (length xs / 512) n b c.saturating_mul.result (omega arith) (omega arith) c.saturating_mul.ensures (omega arith) in
    let low : b < (image_meaning (part xs n i)).count = omega (arith, count, share) in
    record { answered = sym (block_found xs n i b 512 there refl low) }

pub returns : goal.returns
returns c =
    let xs = c.args.self.now.buffer.items in
    let n = c.args.self.now.images in
    let i = c.args.slot in
    let b = c.args.block in
    let there : i < n = c.in_ok-there.ensures.there in
    let count = part_count xs n i there in
    let high : (image_meaning (part xs n i)).count ≤ b =
    elim c.else-block-lt-MOST_BLOCKS.branch [
      | else-block-lt-MOST_BLOCKS-via-then-block-lt-MOST_BLOCKS+else-saturating_mul-len w ↦
          let share : (length xs / 512) / n ≤ b = beyond_share (length xs / 512) n b w.saturating_mul.result (omega arith) w.saturating_mul.ensures (omega arith) in
          omega (arith, count, share)
      | else-block-lt-MOST_BLOCKS-via-else-block-lt-MOST_BLOCKS w ↦ omega (arith, count)
    ] in
    record {
      answered = ap (λ f. Some (numbers f)) c.from.ensures ∙ (ap Some c.raised.ensures.value ∙ sym (block_beyond xs n i b 512 there refl high));
    }
