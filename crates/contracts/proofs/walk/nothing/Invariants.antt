use Rattle.contracts.specs.Walk.{Scattered}
use Rattle.contracts.proofs.walk.nothing.Given as goal

abbrev pub invariant-loop-k : goal.invariant-loop-k
invariant-loop-k l = Scattered l.keys l.k-index (λ _. 0) l.initial.out l.out
