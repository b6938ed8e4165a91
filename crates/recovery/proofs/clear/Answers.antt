use Rattle.std.proofs.Common.{replicate, ap, ◌∙◌}
use Rattle.code.specs.Blocks.{zeros}
use Rattle.recovery.proofs.clear.Goals as goal

pub returns : goal.returns
unfolding zeros
returns c = record { after = c.fill.ensures.after (λ y e. e) ∙ ap (λ n. replicate n 0) c.told-buffer }
