use Rattle.std.proofs.Common.{refl, arith}
use Rattle.checking.proofs.Accounts.{all_fine_none, fine_row}
use Rattle.checking.proofs.passes.group_rows.Goals as goal

pub loop-i-init : goal.loop-i-init
loop-i-init c = all_fine_none _ _ _ _ _ _ refl

pub loop-i-preserved : goal.loop-i-preserved
loop-i-preserved c =
    let l = c.loop-i in
    let q = c.requires.0 in
    let fit = q.placed.small l.i (omega arith) in
    fine_row _ l.i (omega arith) _ (q.placed.buyer l.i (omega arith)) (omega arith) (omega arith)
    _ _ _ _ _ c.group_at.ensures l.invariant
