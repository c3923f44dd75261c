use Rattle.std.proofs.Common.{◌≡◌}
use Rattle.contracts.specs.Walk.{left_at, Scattered, firm_amount}
use Rattle.contracts.proofs.walk.serve_firm.Given as goal

abbrev pub invariant-loop-k : goal.invariant-loop-k
invariant-loop-k l = record {
  left : l.tally.left ≡ left_at l.section l.keys l.left l.k-index;
  given : Scattered l.keys l.k-index (firm_amount l.section l.keys l.left) l.initial.out l.out;
}
