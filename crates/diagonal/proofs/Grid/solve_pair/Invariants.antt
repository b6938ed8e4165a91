use Rattle.prime.proofs.Walks.{Walked}
use Rattle.diagonal.proofs.Grid.solve_pair.Given as goal

abbrev pub invariant-loop-m : goal.invariant-loop-m
invariant-loop-m l = Walked l.self.prime l.self.width 512 l.u l.step l.initial.buffer l.buffer l.sum l._m l.k l.r
