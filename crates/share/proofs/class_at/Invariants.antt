use Rattle.std.proofs.Common.{◌≡◌, ◌+◌}
use Rattle.sums.specs.Sums.{sum}
use Rattle.sums.specs.Lists.{at}
use Rattle.share.proofs.class_at.Given as goal

abbrev pub invariant-loop-class : goal.invariant-loop-class
invariant-loop-class l = sum l.class (at l.counts) + l.rest ≡ l.left
