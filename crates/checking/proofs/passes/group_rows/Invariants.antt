use Rattle.checking.specs.Accounts.{rows_from, AllFine}
use Rattle.checking.proofs.passes.group_rows.Given as goal

abbrev pub invariant-loop-i : goal.invariant-loop-i
invariant-loop-i l = AllFine (rows_from l.rows) l.amounts l.demands l.seen l.sums l.i l.all
