use Rattle.std.proofs.Common.{sym, ◌∙◌, rules}
use Rattle.sheet.proofs.Accepted.{accepted_few}
use Rattle.checking.proofs.Refusing.{checked_read, checked_refused}
use Rattle.checking.proofs.check.Goals as goal

pub returns-in_err-c : goal.returns-in_err-c
returns-in_err-c c = rw (← checked_refused _ _ _ _ (sym c.read.ensures ∙ c.in_err-c.was)) (search rules)

pub check_read-requires-clause-few : goal.check_read-requires-clause-few
check_read-requires-clause-few c = (accepted_few _ _ (sym c.read.ensures ∙ c.in_ok-c.was)).agents

pub returns : goal.returns
returns c = c.check_read.ensures ∙ checked_read _ _ _ _ (sym c.read.ensures ∙ c.in_ok-c.was)
