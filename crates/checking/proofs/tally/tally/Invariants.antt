-- A cell has what it had and the sum of the rows so far that name its agent. So many rows of 32 bits fit into 64.
use Rattle.std.proofs.Common.{◌≡◌, ℕ, ◌+◌, ◌<◌, length}
use Rattle.sums.specs.Sums.{keyed}
use Rattle.sums.specs.Lists.{at}
use Rattle.limits.specs.Limits.{most_agents}
use Rattle.checking.proofs.tally.tally.Given as goal

abbrev pub invariant-loop-j : goal.invariant-loop-j
invariant-loop-j l =
    record {
      long : length l.out ≡ most_agents;
      each : (a : ℕ) → a < most_agents → at l.out a ≡ keyed (at l.keys) (at l.values) l.j a + at l.initial.out a;
    }
