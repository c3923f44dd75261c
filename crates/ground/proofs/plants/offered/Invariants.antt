use Rattle.std.proofs.Common.{◌≡◌}
use Rattle.sums.specs.Sums.{sum}
use Rattle.ground.proofs.Rows.{plant}
use Rattle.ground.proofs.plants.offered.Given as goal

abbrev pub invariant-loop-i : goal.invariant-loop-i
invariant-loop-i l = record {
  available : l.available ≡ sum l.i (λ j. (plant l.section j).availability);
  must : l.must ≡ sum l.i (λ j. (plant l.section j).must);
}
