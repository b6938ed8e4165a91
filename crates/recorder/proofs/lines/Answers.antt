use Rattle.std.proofs.Common.{◌≡◌, ℕ, vec_items, string_bytes, refl, ◌∙◌, subst, arith}
use Rattle.recorder.specs.Runs.{RanOn}
use Rattle.recorder.proofs.Running.{ran_none, ran_more}
use Rattle.recorder.proofs.lines.Goals as goal

pub loop-i-init : goal.loop-i-init
loop-i-init g c = (refl, ran_none _ _ _ _ c.new-out.ensures.bytes)

pub loop-i-preserved : goal.loop-i-preserved
loop-i-preserved g c =
    let h = c.loop-i.invariant in
    (c.step.ensures.same ∙ h.0, ran_more _ _ _ _ _ _ _ _ _ h.0 h.1 c.in_ok-step.ensures.made)

pub returns : goal.returns
returns g c =
    let any = g.V.AnyVolume in
    let v = c.args.volume in
    let n : c.loop-i.i ≡ c.operations-i-end.result = omega arith in
    let P : ℕ → Type 0 = λ i. RanOn (any.shape v) (vec_items c.args.script.now.bytes) i (any.state v) (any.state c.loop-i.volume) (string_bytes c.loop-i.out) in
    record { made = record { left = any.state c.loop-i.volume; ran = subst P (n ∙ c.operations-i-end.ensures.value) c.loop-i.invariant.1 } }
