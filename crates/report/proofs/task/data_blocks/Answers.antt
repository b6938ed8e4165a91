use Rattle.std.proofs.Common.{◌≡◌, ℕ, ◌+◌, ◌-◌, ◌*◌, ◌/◌, ◌<◌, true, [], length, get_or, take, drop, subst, sym, ap, ◌∙◌, arith, length-drop, take_all}
use Rattle.std.specs.Simd.{first_chunks}
use Rattle.std.proofs.lemmas.List.{drop-drop}
use Rattle.code.specs.Blocks.{Block, block_size}
use Rattle.report.specs.Task.{is_stripe, width, data_block}
use Rattle.report.proofs.Tasks.{fitting, chunk_at}
use Rattle.report.proofs.Wholes.{part_block}
use Rattle.report.proofs.task.data_blocks.Goals as goal

pub returns : goal.returns
returns c =
    let task = c.args.task.now in
    let k = width task in
    let good : is_stripe c.args.limit task ≡ true = sym c.if-not-is_stripe.ensures.value in
    let f = fitting c.args.limit task good in
    let rest = drop 4 task in
    let many : length rest / 512 ≡ k = simp length-drop (omega (arith, f.long)) in
    let cut : take (length task - 4) rest ≡ rest = take_all _ rest (simp length-drop (omega arith)) in
    let blocks = c.as_chunks.result.0.now in
    let front : blocks ≡ first_chunks 512 (length rest / 512) rest = c.as_chunks.ensures.front ∙ ap (λ r. first_chunks 512 (length r / 512) r) cut in
    let place : (i : ℕ) → 4 + i * 512 ≡ 4 + block_size * i = λ i. omega arith in
    let given : (i : ℕ) → i < k → get_or blocks i [] ≡ data_block task i = λ i l.
    ap (λ b. get_or b i []) front ∙ chunk_at 512 _ rest i (omega (arith, many))
    ∙ ap (take 512) (drop-drop (i * 512) 4 task ∙ ap (λ m. drop m task) (place i)) in record {
      given = record {
        good = good;
        count = c.as_chunks.ensures.front_len ∙ ap (λ r. length r / 512) cut ∙ many;
        given = given;
        sized = λ i l. subst Block (sym (given i l)) (part_block task (4 + block_size * i) (omega (arith, f.long)) (λ j. (c.type_inv.task j).fits));
      };
    }
