use Rattle.std.proofs.Common.{◌≡◌, ltb}
use Rattle.sums.specs.Sums.{peak, pick}
use Rattle.sums.specs.Lists.{at}
use Rattle.crossing.proofs.highest_below.Given as goal

abbrev pub invariant-loop-y : goal.invariant-loop-y
invariant-loop-y l = l.top ≡ peak l.y-index (λ k. pick (ltb (at l.keys k) l.x) (at l.keys k))
