use Rattle.code.specs.Blocks.{block_size}
use Rattle.field.proofs.Laws.{pq_lawful}
use Rattle.field.proofs.pq_is_lawful.Goals as goal

pub returns : goal.returns
returns c = record { theorem = pq_lawful block_size }
