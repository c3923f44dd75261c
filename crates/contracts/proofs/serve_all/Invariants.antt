use Rattle.std.proofs.Common.{◌≡◌, ◌≤◌, ℕ}
use Rattle.sums.specs.Lists.{at}
use Rattle.order.specs.Passes.{under}
use Rattle.contracts.specs.Assign.{count_in}
use Rattle.contracts.specs.Sides.{tag_in, CutBelow}
use Rattle.contracts.proofs.serve_all.Given as goal

abbrev pub invariant-loop-b : goal.invariant-loop-b
invariant-loop-b l = record {
  begins : l.begin ≡ under (tag_in l.j.section.now l.j.decided.now) (count_in l.j.section.now) l.b;
  kept : (u : ℕ) → l.begin ≤ u → at l.keys u ≡ at l.initial.keys u;
  done : CutBelow l.j.section.now l.j.demands.now l.j.decided.now l.b l.initial.out l.out;
}
