use Rattle.sums.specs.Lists.{at}
use Rattle.contracts.specs.Walk.{quantity_of, Scattered}
use Rattle.contracts.proofs.walk.in_full.Given as goal

abbrev pub invariant-loop-k : goal.invariant-loop-k
invariant-loop-k l = Scattered l.keys l.k-index (λ u. quantity_of l.section (at l.keys u)) l.initial.out l.out
