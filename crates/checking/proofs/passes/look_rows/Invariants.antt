use Rattle.checking.specs.Accounts.{rows_from, AllSeen}
use Rattle.checking.proofs.passes.look_rows.Given as goal

abbrev pub invariant-loop-i : goal.invariant-loop-i
invariant-loop-i l = AllSeen (rows_from l.rows) l.amounts l.i l.all
