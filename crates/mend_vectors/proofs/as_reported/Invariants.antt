-- No more bytes changed than were looked at.
use Rattle.std.proofs.Common.{◌≤◌}
use Rattle.mend_vectors.proofs.as_reported.Given as goal

abbrev pub invariant-loop-k : goal.invariant-loop-k
invariant-loop-k l = l.i ≤ l.k
