use Rattle.std.proofs.Common.{length}
use Rattle.share.specs.Lacks.{lack_of, NextLack}
use Rattle.share.proofs.least_from.Given as goal

abbrev pub invariant-loop-weight : goal.invariant-loop-weight
invariant-loop-weight l = NextLack (lack_of l.p.amount l.p.weights.now) (length l.yielded) l.low l.high l.m.lack l.m.count
