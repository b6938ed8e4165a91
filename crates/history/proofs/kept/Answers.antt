use Rattle.history.proofs.Logs.{kept_from_format, kept_by_calls, kept_is_roomy}
use Rattle.history.proofs.kept.Goals as goal

pub returns : goal.returns
returns c = record { format = kept_from_format; calls = kept_by_calls; roomy = kept_is_roomy }
