use Rattle.history.proofs.Answering.{can_format, some_formatted, always_answers, every_calls}
use Rattle.history.proofs.answerable.Goals as goal

pub returns : goal.returns
returns c = record { format = can_format; some = some_formatted; always = always_answers; calls = every_calls }
