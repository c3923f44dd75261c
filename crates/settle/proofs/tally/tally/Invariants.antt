use Rattle.std.proofs.Common.{◌≡◌, ℕ, ◌+◌, ◌<◌, length}
use Rattle.limits.specs.Limits.{most_agents}
use Rattle.sums.specs.Sums.{keyed}
use Rattle.sums.specs.Lists.{at}
use Rattle.settle.proofs.tally.tally.Given as goal

abbrev pub invariant-loop-key : goal.invariant-loop-key
invariant-loop-key l = record {
  long : length l.out ≡ most_agents;
  each : (a : ℕ) → a < most_agents → at l.out a ≡ keyed (at l.keys) (at l.values) (length l.yielded) a + at l.fn.out a;
}
