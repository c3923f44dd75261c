use Rattle.std.proofs.Common.{length}
use Rattle.sums.specs.Lists.{at}
use Rattle.contracts.specs.Walk.{Scattered}
use Rattle.contracts.proofs.walk.scatter.Given as goal

abbrev pub invariant-loop-k : goal.invariant-loop-k
invariant-loop-k l = Scattered l.keys (length l.yielded) (at l.amounts) l.initial.out l.out
