-- What is left for those at the marginal price is what the plants before have not taken of it.
use Rattle.std.proofs.Common.{◌≡◌, ◌-◌}
use Rattle.sums.specs.Sums.{keyed}
use Rattle.sums.specs.Lists.{at, Filled}
use Rattle.crossing.specs.Crossing.{held_below}
use Rattle.merit.specs.Merit.{schedule}
use Rattle.dispatch.specs.Dispatch.{plant_count}
use Rattle.dispatch.proofs.fill.Given as goal

abbrev pub invariant-loop-i : goal.invariant-loop-i
invariant-loop-i l =
    let n = plant_count l.offers l.available in
    record {
      filled : Filled 0 l.initial.out l.out l.i (schedule (at l.offers) (at l.available) n l.demand);
      left : l.left ≡ l.demand - held_below (at l.offers) (at l.available) n l.m - keyed (at l.offers) (at l.available) l.i l.m;
    }
