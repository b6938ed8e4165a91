use Rattle.std.proofs.Common.{◌≡◌, true, is_some, is_ok, refl, ap, ◌∙◌, arith}
use Rattle.std.proofs.lemmas.Bool.{cond-true}
use Rattle.code.specs.Blocks.{zeros}
use Rattle.code.specs.Answers.{answer}
use Rattle.parity.specs.Stripe.{gaps}
use Rattle.parity.specs.Ways.{way, by_way}
use Rattle.recovery.specs.Answers.{named}
use Rattle.recovery.proofs.Outcomes.{way_taken, taken_ok, good_two}
use Rattle.recovery.proofs.Found.{way_from, way_named, found_is}
use Rattle.recovery.proofs.Marks.{some_at}
use Rattle.recovery.proofs.columns.recover_missing.Goals as goal

pub gather-requires : goal.gather-requires
unfolding zeros
gather-requires g c = record { shape = c.requires.shape; empty = (c.clear.ensures.after, refl) }

pub returns : goal.returns
returns g c =
    let C = g.C.Code.coding c.args.code.now in
    let k = c.args.k in
    let cols = g.S.AtHand.held c.args.columns.now in
    let p : c.is_some.result ≡ is_some (cols k) = some_at c.at.result (cols k) _ c.at.ensures.value c.is_some.ensures in
    let w : c.way-way.result ≡ way k (gaps cols k) (is_some (cols k)) c.args.want =
    way_from k cols c.is_some.result c.args.want c.lost_data.result c.way-way.result c.lost_data.ensures.value p c.way-way.ensures.value in
    let n : named C.limit c.way-way.result ≡ true = ap (named C.limit) w ∙ way_named C.limit cols k c.requires.shape.0 (gaps cols k) refl (is_some (cols k)) c.args.want in
    let z : answer c.solve.result ≡ 0 = c.solve.ensures.answered ∙ way_taken C.limit c.way-way.result _ n (good_two c.gather.new.plain c.gather.new.mixed (omega arith) (omega arith)) in
    record {
      answered = z;
      value = found_is C k cols c.args.want c.way-way.result c.gather.new.plain c.gather.new.mixed c.solve.new.plain c.requires.gone w
          c.gather.ensures.plain c.gather.ensures.mixed (c.solve.ensures.column ∙ cond-true (is_ok c.solve.result) (by_way C c.way-way.result c.gather.new.plain c.gather.new.mixed) c.gather.new.plain (taken_ok c.solve.result z));
    }
