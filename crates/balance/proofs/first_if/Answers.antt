use Rattle.std.proofs.Common.{arith, sym}
use Rattle.sums.proofs.First.{first_none}
use Rattle.balance.proofs.Found.{found_none}
use Rattle.balance.proofs.first_if.Goals as goal

pub returns-else-any : goal.returns-else-any
returns-else-any c = rw (first_none _ _ (c.requires.2 c.if-any.false)) (sym (found_none _ _ (omega arith)))
