use Rattle.std.proofs.Common.{◌≡◌}
use Rattle.sums.specs.Sums.{peak}
use Rattle.sums.specs.Lists.{at}
use Rattle.crossing.proofs.highest.Given as goal

abbrev pub invariant-loop-y : goal.invariant-loop-y
invariant-loop-y l = l.top ≡ peak l.y-index (at l.keys)
