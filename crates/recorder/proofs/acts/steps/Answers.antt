use Rattle.std.proofs.Common.{◌≡◌, ◌<◌, ◌≤◌, Some, refl, ◌∙◌, arith, rules}
use Rattle.contents.specs.Refusals.{told}
use Rattle.recorder.specs.Acts.{StepsOn}
use Rattle.recorder.proofs.Running.{going_none, going_more, steps_ended, steps_halted, steps_spent}
use Rattle.recorder.proofs.acts.steps.Goals as goal

pub loop-made-init : goal.loop-made-init
loop-made-init g c = (refl, going_none _ _ _)

pub loop-made-preserved : goal.loop-made-preserved
loop-made-preserved g c =
    let h = c.loop-made.invariant in
    let left : c.in_ok-frontier.frontier < (g.V.AnyVolume.shape c.args.volume.now).stripes = (let s = c.stripes-stripes.ensures.value in omega (arith, c.if-frontier-stripes.false)) in
    (c.step.ensures.same ∙ h.0, going_more _ _ _ _ _ _ _ h.0 h.1 _ left c.in_ok-frontier.ensures.goes)

pub returns-then-frontier-stripes : goal.returns-then-frontier-stripes
returns-then-frontier-stripes g c =
    let h = c.loop-made.invariant in
    let none_left : (g.V.AnyVolume.shape c.args.volume.now).stripes ≤ c.in_ok-frontier.frontier = (let s = c.stripes-stripes.ensures.value in omega (arith, c.if-frontier-stripes.true)) in
    record {
      same = c.step.ensures.same ∙ h.0;
      steps = steps_ended _ _ _ _ _ _ _ h.0 h.1 c.args.most _ c.loop-made-test.true none_left c.in_ok-frontier.ensures.goes;
    }

pub returns-in_err-frontier : goal.returns-in_err-frontier
returns-in_err-frontier g c =
    let any = g.V.AnyVolume in
    let v = c.args.volume.now in
    let h = c.loop-made.invariant in
    let e = c.in_err-frontier.field-0.0 in
    let halted : StepsOn (any.shape v) (any.state v) c.args.order.now.slot c.args.most (Some (told e)) (any.state c.step.new.self) =
    steps_halted _ _ _ _ _ _ _ h.0 h.1 c.args.most (told e) c.loop-made-test.true c.in_err-frontier.ensures.goes in
    record { same = c.step.ensures.same ∙ h.0; steps = search rules }

pub returns : goal.returns
returns g c =
    let h = c.loop-made.invariant in
    let all : c.loop-made._made ≡ c.args.most = omega (arith, c.loop-made-test.false, c.loop-made.auto._made-end) in
    record { same = h.0; steps = steps_spent _ _ _ _ _ c.args.most all h.1 }
