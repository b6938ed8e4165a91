use Rattle.std.proofs.Common.{min, refl, ◌∙◌, rules, arith}
use Rattle.std.proofs.lemmas.Iterator.{YieldsList-from_range, YieldsList-from_map}
use Rattle.std.proofs.lemmas.Iterator.Consumers.{YieldsList-at, fold_from_yields_List}
use Rattle.member.specs.Meaning.{most_blocks}
use Rattle.volume.specs.Slots.{members_in}
use Rattle.volume.proofs.Walking.{smallest_range}
use Rattle.volume.proofs.walks.smallest_count.Goals as goal
use borrow.Author.Tests.{tests}

pub returns : goal.returns
returns g c =
    let M = members_in g.B.Bank c.args.bank.now in
    record {
      value = fold_from_yields_List _ min most_blocks c.fold.result c.fold.ensures.ran
          (YieldsList-from_map _ (λ i. (M i).count) (YieldsList-at c.map.ensures.source (YieldsList-from_range 0 c.args.n c.args.n refl (omega arith))) c.map.ensures.closure (λ x r q k. search (rules, tests)))
          (λ a x b q k. search (rules, tests))
          ∙ smallest_range M c.args.n;
    }
