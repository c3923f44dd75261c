-- The cell of the next plant has not been written yet.
use Rattle.std.proofs.Common.{◌≡◌, length, arith}
use Rattle.sums.proofs.Fill.{filled_none, filled_more}
use Rattle.settle.proofs.plants.add_musts.Goals as goal

pub loop-i-init : goal.loop-i-init
loop-i-init c = filled_none 0 _ _

pub overflow_add-schedule : goal.overflow_add-schedule
overflow_add-schedule c =
    omega (arith, c.loop-i.invariant.kept c.loop-i.i (omega arith), c.requires.by_index c.loop-i.i (omega arith))

pub loop-i-preserved : goal.loop-i-preserved
loop-i-preserved c =
    filled_more 0 _ c.loop-i.schedule c.loop-i.i _ _ (omega arith)
    (omega (arith, c.loop-i.invariant.kept c.loop-i.i (omega arith))) c.loop-i.invariant

pub returns : goal.returns
returns c = let e : c.loop-i.i ≡ length c.args.musts.now = omega arith in rw e at c.loop-i.invariant
