use Rattle.std.proofs.Common.{arith}
use Rattle.share.proofs.Lacks.{pass_stop, pass_on}
use Rattle.share.proofs.pass.Goals as goal

pub returns-then-b-m : goal.returns-then-b-m
returns-then-b-m c = pass_stop _ _ _ _ _ _ _ c.least_from-m.ensures c.requires.1 (omega arith)

pub returns : goal.returns
returns c = pass_on _ _ _ _ _ _ _ c.least_from-m.ensures c.requires.1 (omega arith)
