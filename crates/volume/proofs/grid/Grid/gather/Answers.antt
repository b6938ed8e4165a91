use Rattle.std.proofs.Common.{◌≡◌, ℕ, true, ◌+◌, cond, is_ok, refl, ap, ◌∙◌, subst, arith}
use Rattle.bank.specs.Slots.{Slots}
use Rattle.code.specs.Blocks.{◌⊕◌, zeros}
use Rattle.code.proofs.Blocks.{length_zeros}
use Rattle.parity.specs.Stripe.{if_present, plain_part, mixed_part, plain_sum, mixed_sum}
use Rattle.parity.specs.Ways.{takes_plain, takes_mixed}
use Rattle.parity.proofs.Sums.{sum_none}
use Rattle.recovery.proofs.Marks.{needed_none, needed_step}
use Rattle.volume.specs.Grids.{width, columns_on}
use Rattle.volume.specs.Slots.{slots_in}
use Rattle.volume.proofs.Gathering.{loaded, unloaded, column_ok, added, unadded}
use Rattle.volume.proofs.grid.Grid.gather.Goals as goal
use Rattle.volume.proofs.grid.Grid.gather.Goals.{then-load, else-load}

pub loop-t-init : goal.loop-t-init
loop-t-init g c = (refl, needed_none _ _ _ (sum_none _) c.requires.empty.0, needed_none _ _ _ (sum_none _) c.requires.empty.1)

pub loop-t-preserved : goal.loop-t-preserved
loop-t-preserved g c =
    let C = g.C.Code.coding c.args.self.now.code.now in
    let k = width c.args.self.now in
    let t = c.loop-t.t in
    let way = c.args.way in
    let col = λ (ms : Slots). columns_on g.L.Layout c.args.self.now ms c.args.s t in
    let o = col (slots_in g.B.Bank c.loop-t.bank) in
    let n = c.width-k.ensures.value in
    let lp = c.loop-t.auto.plain ∙ length_zeros _ c.requires.empty.0 in
    let lm = c.loop-t.auto.mixed ∙ length_zeros _ c.requires.empty.1 in
    let step : (c.if-load.plain ≡ cond (takes_plain way) (c.loop-t.plain ⊕ if_present (plain_part k t) o) c.loop-t.plain)
    × (c.if-load.mixed ≡ cond (takes_mixed way) (c.loop-t.mixed ⊕ if_present (mixed_part C k t) o) c.loop-t.mixed) =
    elim c.if-load.branch [
      | then-load w ↦
          let h = loaded o c.loop-t.scratch c.load.new.into w.if-load.ensures.current c.load.ensures.after in
          let ok : is_ok w.add_column.result ≡ true =
          column_ok C.limit k t c.load.new.into c.loop-t.plain c.loop-t.mixed w.add_column.result c.args.self.now.fitting.reach (omega (arith, n)) c.load.array_long lp lm (rw n at w.add_column.ensures.answered) in (
            w.plain-is ∙ added (is_ok w.add_column.result) (takes_plain way) (plain_part k t) o c.load.new.into c.loop-t.plain w.add_column.new.plain ok h (rw n at w.add_column.ensures.plain),
            w.mixed-is ∙ added (is_ok w.add_column.result) (takes_mixed way) (mixed_part C k t) o c.load.new.into c.loop-t.mixed w.add_column.new.mixed ok h (rw n at w.add_column.ensures.mixed),
          )
      | else-load w ↦
          let h = unloaded o w.if-load.ensures.current in
          (w.plain-is ∙ unadded (takes_plain way) (plain_part k t) o c.loop-t.plain h lp, w.mixed-is ∙ unadded (takes_mixed way) (mixed_part C k t) o c.loop-t.mixed h lm)
    ] in
    let p = step.0 ∙ ap (λ (ms : Slots). cond (takes_plain way) (c.loop-t.plain ⊕ if_present (plain_part k t) (col ms)) c.loop-t.plain) c.loop-t.invariant.0 in
    let q = step.1 ∙ ap (λ (ms : Slots). cond (takes_mixed way) (c.loop-t.mixed ⊕ if_present (mixed_part C k t) (col ms)) c.loop-t.mixed) c.loop-t.invariant.0 in (
      c.load.ensures.same ∙ c.loop-t.invariant.0,
      needed_step _ _ _ _ _ c.loop-t.invariant.1 p,
      needed_step _ _ _ _ _ c.loop-t.invariant.2 q,
    )

pub returns : goal.returns
returns g c =
    let k = width c.args.self.now in
    let e : c.loop-t.t ≡ k + 2 = omega (arith, c.width-k.ensures.value) in
    let cols = columns_on g.L.Layout c.args.self.now (slots_in g.B.Bank c.args.bank.now) c.args.s in
    record {
      same = c.loop-t.invariant.0;
      plain = subst (λ (x : ℕ). c.loop-t.plain ≡ cond (takes_plain c.args.way) (plain_sum k cols x) zeros) e c.loop-t.invariant.1;
      mixed = subst (λ (x : ℕ). c.loop-t.mixed ≡ cond (takes_mixed c.args.way) (mixed_sum (g.C.Code.coding c.args.self.now.code.now) k cols x) zeros) e c.loop-t.invariant.2;
    }
