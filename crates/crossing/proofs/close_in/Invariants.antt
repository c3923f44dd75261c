-- What is held below `low` is wanted whole, and of what is above `high` nothing.
use Rattle.std.proofs.Common.{◌-◌, ◌≤◌, length}
use Rattle.sums.specs.Lists.{at}
use Rattle.crossing.specs.Crossing.{held_below, Above}
use Rattle.crossing.proofs.close_in.Given as goal

abbrev pub invariant-loop-low : goal.invariant-loop-low
invariant-loop-low l =
    record {
      wanted : held_below (at l.keys) (at l.values) (length l.keys) l.low ≤ l.demand;
      enough : Above (at l.keys) (at l.values) (length l.keys) l.demand l.high;
    }

abbrev pub decreases-loop-low : goal.decreases-loop-low
decreases-loop-low l = l.high - l.low
