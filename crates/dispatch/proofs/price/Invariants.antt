use Rattle.std.proofs.Common.{◌≡◌}
use Rattle.sums.specs.Sums.{peak}
use Rattle.sums.specs.Lists.{at}
use Rattle.merit.proofs.Price.{bid}
use Rattle.dispatch.proofs.price.Given as goal

abbrev pub invariant-loop-i : goal.invariant-loop-i
invariant-loop-i l = l.top ≡ peak l.i (bid (at l.offers) (at l.flags) (at l.scheduled))
