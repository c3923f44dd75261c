use Rattle.std.proofs.Common.{length, ◌^◌}
use Rattle.share.specs.Lacks.{lack_of, Classed}
use Rattle.share.proofs.classes.Given as goal

abbrev pub invariant-loop-weight : goal.invariant-loop-weight
invariant-loop-weight l = Classed (lack_of l.p.amount l.p.weights.now) (length l.yielded) l.low (2 ^ l.s) l.counts
