use Rattle.std.proofs.Common.{◌≡◌}
use Rattle.remap.specs.Places.{table_of, place, left}
use Rattle.remap.specs.Tries.{Trying}
use Rattle.remap.proofs.Remap.put.Given as goal

-- the block stands at `at`, and the write ends as it would have from the start
abbrev pub invariant-loop-answer : goal.invariant-loop-answer
invariant-loop-answer g l =
    (l.at ≡ place (table_of l.self.moves) l.first l.block)
    × Trying g.M.Member.meaning g.M.Member.wrote l.first l.block l.bytes (g.M.Member.state l.initial.self.below)
    (table_of l.initial.self.moves) (g.M.Member.state l.self.below) (table_of l.self.moves)

abbrev pub decreases-loop-answer : goal.decreases-loop-answer
decreases-loop-answer g l = left (table_of l.self.moves)
