use Rattle.std.proofs.Common.{◌≡◌, ℕ, ◌+◌, ◌-◌, ◌++◌, [], ◌∷◌, length, sym, ap, ◌∙◌, subst, arith}
use Rattle.std.proofs.lemmas.List.{length-append}
use Rattle.std.specs.Slice.Iter.{chunks_exact_rest, chunks_exact_size}
use Rattle.code.specs.Blocks.{onto}
use Rattle.prime.specs.Rows.{row_sums}
use Rattle.diagonal.specs.Facts.{sizes_of}
use Rattle.prime.proofs.Repeats.{Cut, sums_none, sums_more, uncut, cut_within, cut_row, cut_more, cut_all}
use Rattle.diagonal.proofs.Grid.sum_rows.Goals as goal

pub loop-row-init : goal.loop-row-init
loop-row-init c =
    let w = c.args.self.now.width in
    let b = c.args.block.now in
    let e = c.into_iter-row-iterator.ensures.into_iter_gives in
    record {
      sums = sums_none w b c.args.into.now;
      cut = subst (Cut w b 0) (sym (ap chunks_exact_rest e ∙ c.chunks_exact-row-items.ensures.rest)) (uncut w b);
      size = ap chunks_exact_size e ∙ c.chunks_exact-row-items.ensures.size;
    }

pub loop-row-preserved : goal.loop-row-preserved
loop-row-preserved c =
    let w = c.args.self.now.width in
    let b = c.args.block.now in
    let k = length c.loop-row.yielded in
    let row = c.in-Some.row.now in
    let left = chunks_exact_rest c.loop-row.row-iterator in
    let after = chunks_exact_rest c.next.new.self in
    let step = c.in-Some.ensures.steps in
    let wide : length row ≡ w = step.1.1 ∙ c.loop-row.invariant.size in
    let cut = c.loop-row.invariant.cut in
    let more : k + 1 ≡ length (c.loop-row.yielded ++ c.in-Some.row ∷ []) = sym (length-append c.loop-row.yielded (c.in-Some.row ∷ [])) in
    record {
      sums =
          sums_more w b k c.args.into.now c.loop-row.into row c.xor_run.new.into (cut_within w b k left row after cut step.1.0 wide) c.loop-row.invariant.sums
          (cut_row w b k left row after cut step.1.0 wide) c.xor_run.ensures.after
          ∙ ap (λ (n : ℕ). onto c.args.into.now (row_sums w b n)) more;
      cut = subst (λ (n : ℕ). Cut w b n after) more (cut_more w b k left row after cut step.1.0 wide);
      size = step.0 ∙ c.loop-row.invariant.size;
    }

pub returns : goal.returns
returns c =
    let g = c.args.self.now in
    let b = c.args.block.now in
    let step = c.in-None.ensures.steps in
    let all : length c.loop-row.yielded ≡ g.prime - 1 =
    cut_all g.prime g.width 512 (sizes_of g) b c.told-block (length c.loop-row.yielded) (chunks_exact_rest c.loop-row.row-iterator) c.loop-row.invariant.cut (omega (arith, step.1.0, c.loop-row.invariant.size)) in
    record { after = c.loop-row.invariant.sums ∙ ap (λ (n : ℕ). onto c.args.into.now (row_sums g.width b n)) all }
