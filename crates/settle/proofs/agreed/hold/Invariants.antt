-- What an agent holds is what the rows so far bought for it and sold for it.
use Rattle.std.proofs.Common.{◌≡◌, ℕ, ◌+◌, ◌<◌, length}
use Rattle.limits.specs.Limits.{most_agents}
use Rattle.sums.specs.Lists.{at}
use Rattle.settle.proofs.Holdings.{bought_to, sold_to}
use Rattle.settle.proofs.agreed.hold.Given as goal

abbrev pub invariant-loop-j : goal.invariant-loop-j
invariant-loop-j l = record {
  long : length l.held ≡ most_agents;
  each : (a : ℕ) → a < most_agents → at l.held a ≡ bought_to l.section l.amounts l.j a + sold_to l.section l.amounts l.j a;
}
