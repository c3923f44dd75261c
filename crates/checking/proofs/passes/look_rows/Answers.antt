use Rattle.std.proofs.Common.{arith}
use Rattle.checking.proofs.Accounts.{seen_row}
use Rattle.checking.proofs.passes.look_rows.Goals as goal

pub loop-i-init : goal.loop-i-init
loop-i-init c = c.requires.begun

pub loop-i-preserved : goal.loop-i-preserved
loop-i-preserved c =
    let l = c.loop-i in
    let fit = c.requires.placed.small l.i (omega arith) in
    seen_row _ l.i (omega arith) _ (c.requires.placed.buyer l.i (omega arith)) (omega arith) (omega arith) _ _ c.look.ensures l.invariant
