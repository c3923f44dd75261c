use Rattle.std.proofs.Common.{◌≡◌, length, arith}
use Rattle.sums.proofs.Fill.{filled_none, filled_more}
use Rattle.contracts.proofs.walk.gather.Goals as goal

pub loop-p-init : goal.loop-p-init
loop-p-init c = filled_none _ _ _

pub loop-p-preserved : goal.loop-p-preserved
loop-p-preserved c = filled_more _ _ _ _ _ _ (omega arith) c.quantity_of.ensures c.loop-p.invariant

pub returns : goal.returns
returns c =
    let e : c.loop-p.p ≡ length c.args.keys.now = omega arith in
    rw e at c.loop-p.invariant
