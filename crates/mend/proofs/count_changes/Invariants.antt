use Rattle.std.proofs.Common.{◌≡◌}
use Rattle.mend.specs.Mend.{count_to, changed}
use Rattle.mend.proofs.count_changes.Given as goal

abbrev pub invariant-loop-k : goal.invariant-loop-k
invariant-loop-k l = l.n ≡ count_to (changed l.s) l.k
