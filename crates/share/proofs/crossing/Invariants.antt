use Rattle.std.proofs.Common.{ℕ, ◌-◌, ◌≤◌, length}
use Rattle.crossing.specs.Crossing.{Bracket}
use Rattle.share.specs.Lacks.{most_total, lack_of, one}
use Rattle.share.proofs.crossing.Given as goal

abbrev pub invariant-loop-b : goal.invariant-loop-b
invariant-loop-b l =
    let key = lack_of l.p.amount l.p.weights.now in
    let n = length l.p.weights.now in
    record {
      small : l.b.high ≤ most_total;
      still : (d : ℕ) → Bracket key one n d l.fn.first.low l.fn.first.high l.fn.first.left → Bracket key one n d l.b.low l.b.high l.b.left;
    }

abbrev pub decreases-loop-b : goal.decreases-loop-b
decreases-loop-b l = l.b.high - l.b.low
