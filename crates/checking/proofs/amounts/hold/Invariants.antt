-- A cell has what it had, and what the rows so far give the agent as buyer and as seller. So many rows of 32 bits fit into 64.
use Rattle.checking.specs.Parts.{HoldingTo}
use Rattle.checking.proofs.amounts.hold.Given as goal

abbrev pub invariant-loop-j : goal.invariant-loop-j
invariant-loop-j l = HoldingTo l.rows l.amounts l.initial.held l.j l.held
