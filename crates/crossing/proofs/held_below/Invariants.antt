use Rattle.std.proofs.Common.{◌≡◌, ◌*◌, ◌≤◌, length}
use Rattle.sums.specs.Lists.{at}
use Rattle.crossing.specs.Crossing.{held_below}
use Rattle.crossing.proofs.held_below.Given as goal

abbrev pub invariant-loop-y : goal.invariant-loop-y
invariant-loop-y l =
    record {
      sum : l.s ≡ held_below (at l.keys) (at l.values) (length l.yielded) l.x;
      small : l.s ≤ 4294967295 * length l.yielded;
    }
