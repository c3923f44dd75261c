-- What is left and the floors so far sum to the amount, and the counts class the lacks so far.
use Rattle.std.proofs.Common.{◌≡◌, ◌+◌, ◌^◌}
use Rattle.sums.specs.Sums.{sum}
use Rattle.sums.specs.Lists.{Filled}
use Rattle.share.specs.Share.{floor_of}
use Rattle.share.specs.Lacks.{lack_of, Classed}
use Rattle.share.proofs.floors.Given as goal

abbrev pub invariant-loop-i : goal.invariant-loop-i
invariant-loop-i l =
    record {
      left : l.left + sum l.i (floor_of l.p.amount l.p.weights.now) ≡ l.p.amount;
      filled : Filled 0 l.initial.out l.out l.i (floor_of l.p.amount l.p.weights.now);
      counted : Classed (lack_of l.p.amount l.p.weights.now) l.i 0 (2 ^ l.s) l.counts;
    }
