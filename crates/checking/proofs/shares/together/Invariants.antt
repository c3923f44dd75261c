use Rattle.std.proofs.Common.{◌+◌}
use Rattle.sums.specs.Lists.{at, Filled}
use Rattle.checking.proofs.shares.together.Given as goal

abbrev pub invariant-loop-a : goal.invariant-loop-a
invariant-loop-a l = Filled 0 l.initial.out l.out l.a (λ k. at l.xs k + at l.ys k)
