-- A cell has the sum of the rows so far that name its agent.
use Rattle.std.proofs.Common.{◌≡◌, ℕ, ◌<◌, length}
use Rattle.limits.specs.Limits.{most_agents}
use Rattle.sums.specs.Sums.{keyed}
use Rattle.sums.specs.Lists.{at}
use Rattle.balance.proofs.Rows.{owner, taken, given}
use Rattle.balance.proofs.meter.Given as goal

abbrev pub invariant-loop-j : goal.invariant-loop-j
invariant-loop-j l = record {
  imports_long : length l.imports ≡ most_agents;
  exports_long : length l.exports ≡ most_agents;
  imports : (a : ℕ) → a < most_agents → at l.imports a ≡ keyed (owner l.section) (taken l.section) l.j a;
  exports : (a : ℕ) → a < most_agents → at l.exports a ≡ keyed (owner l.section) (given l.section) l.j a;
}
