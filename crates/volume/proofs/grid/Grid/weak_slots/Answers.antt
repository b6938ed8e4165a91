use Rattle.std.proofs.Common.{ℕ, ◌||◌, ltb, refl, ◌∙◌, rules, arith}
use Rattle.std.proofs.lemmas.Iterator.{YieldsList-from_range}
use Rattle.std.proofs.lemmas.Iterator.Consumers.{YieldsList-at, YieldsList-from_filter, count_from_yields_List}
use Rattle.volume.specs.Grids.{grid_frontiers}
use Rattle.volume.specs.Slots.{members_in}
use Rattle.volume.proofs.Walking.{counted_range}
use Rattle.volume.proofs.grid.Grid.weak_slots.Goals as goal
use borrow.Author.Tests.{tests}

pub returns : goal.returns
returns g c =
    let weak = λ (i : ℕ). (members_in g.B.Bank c.args.bank.now i).gone || ltb (grid_frontiers c.args.self.now i) c.args.self.now.size.stripes in
    record {
      value = count_from_yields_List c.filter.result c.count.result c.count.ensures.ran
          (YieldsList-from_filter _ weak (YieldsList-at c.filter.ensures.source (YieldsList-from_range 0 c.args.self.now.size.slots c.args.self.now.size.slots refl (omega arith))) c.filter.ensures.closure (λ x b q k. search (rules, tests)))
          ∙ counted_range weak c.args.self.now.size.slots;
    }
