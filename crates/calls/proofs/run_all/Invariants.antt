-- A case has a row at least, and the last begins within the input.
use Rattle.std.proofs.Common.{◌-◌, ◌+◌, ◌≤◌}
use Rattle.calls.proofs.run_all.Given as goal

abbrev pub invariant-loop-at : goal.invariant-loop-at
invariant-loop-at g l = (l.case ≤ l.at) × (l.at ≤ l.rows + 4097) × (l.rows ≤ 8192)

abbrev pub decreases-loop-at : goal.decreases-loop-at
decreases-loop-at g l = l.rows - l.at
