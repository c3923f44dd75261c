use Rattle.std.proofs.Common.{◌+◌}
use Rattle.sums.specs.Lists.{at, Filled}
use Rattle.settle.proofs.plants.add_musts.Given as goal

abbrev pub invariant-loop-i : goal.invariant-loop-i
invariant-loop-i l = Filled 0 l.fn.schedule l.schedule l.i (λ j. at l.musts j + at l.fn.schedule j)
