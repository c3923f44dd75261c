use Rattle.checking.specs.Accounts.{rows_from, AllSummed}
use Rattle.checking.proofs.passes.add_rows.Given as goal

abbrev pub invariant-loop-i : goal.invariant-loop-i
invariant-loop-i l = AllSummed (rows_from l.rows) l.amounts l.seen l.i l.all
