use Rattle.std.proofs.Common.{◌≡◌, ◌-◌}
use Rattle.sums.specs.Sums.{sum}
use Rattle.sums.specs.Lists.{at, Filled}
use Rattle.settle.proofs.plants.set_apart.Given as goal

abbrev pub invariant-loop-i : goal.invariant-loop-i
invariant-loop-i l = record {
  total : l.total ≡ sum l.i (at l.musts);
  spare : Filled 0 l.fn.available l.available l.i (λ j. at l.fn.available j - at l.musts j);
}
