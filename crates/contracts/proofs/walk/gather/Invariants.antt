use Rattle.sums.specs.Lists.{at, Filled}
use Rattle.contracts.specs.Walk.{quantity_of}
use Rattle.contracts.proofs.walk.gather.Given as goal

abbrev pub invariant-loop-p : goal.invariant-loop-p
invariant-loop-p l = Filled 0 l.initial.out l.out l.p (λ u. quantity_of l.section (at l.keys u))
