use Rattle.std.proofs.Common.{◌≡◌, ◌+◌, ◌<◌, ◌++◌, map, length, take, drop, set, sym, ◌∙◌, subst, arith, length-set}
use Rattle.std.proofs.lemmas.List.Edits.{map_over_more}
use Rattle.std.proofs.lemmas.List.{get_or_default}
use Rattle.faultplan.specs.Entries.{after}
use Rattle.faultplan.proofs.plan.tell_each.Goals as goal

pub loop-entry-preserved : goal.loop-entry-preserved
loop-entry-preserved c =
    let xs = c.args.entries.now in
    let ys = c.loop-entry.entries in
    let i = c.loop-entry.entry-index in
    let f = after c.args.event in
    let lt : i < length xs = omega arith in
    let ly : i < length ys = omega (arith, c.loop-entry.invariant.1) in (
      subst (λ z. set ys i z ≡ map f (take (i + 1) xs) ++ drop (i + 1) xs) (sym c.after.ensures.value)
          (map_over_more f xs ys i _ lt c.loop-entry.invariant.0 (get_or_default ys i _ _ ly)),
      length-set ys i _ ∙ c.loop-entry.invariant.1,
    )
