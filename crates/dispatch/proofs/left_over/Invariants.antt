use Rattle.std.proofs.Common.{◌≡◌, ◌-◌}
use Rattle.sums.specs.Sums.{sum}
use Rattle.sums.specs.Lists.{at}
use Rattle.dispatch.proofs.left_over.Given as goal

abbrev pub invariant-loop-v : goal.invariant-loop-v
invariant-loop-v l = l.left ≡ l.demand - sum l.v-index (at l.available)
