use Rattle.sums.specs.Lists.{Filled}
use Rattle.ground.proofs.Rows.{plant}
use Rattle.ground.proofs.plants.fill.Given as goal

abbrev pub invariant-loop-i : goal.invariant-loop-i
invariant-loop-i l = record {
  holders : Filled 0 l.fn.holders l.holders l.i (λ j. (plant l.section j).agent);
  flags : Filled 0 l.fn.flags l.flags l.i (λ j. (plant l.section j).inflexible);
  musts : Filled 0 l.fn.musts l.musts l.i (λ j. (plant l.section j).must);
  offers : Filled 0 l.fn.offers l.offers l.i (λ j. (plant l.section j).price);
  available : Filled 0 l.fn.available l.available l.i (λ j. (plant l.section j).availability);
}
