use Rattle.std.proofs.Common.{ℕ, ◌<◌, ◌≤◌}
use Rattle.sums.specs.Lists.{at}
use Rattle.crossing.proofs.lowest_from.Given as goal

abbrev pub invariant-loop-y : goal.invariant-loop-y
invariant-loop-y l =
    record {
      above : l.x ≤ l.low;
      within : l.low ≤ l.high;
      lowest : (k : ℕ) → k < l.y-index → at l.keys k < l.low → at l.keys k < l.x;
    }
