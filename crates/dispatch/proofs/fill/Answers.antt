use Rattle.std.proofs.Common.{arith, ◌∙◌}
use Rattle.sums.proofs.Fill.{filled_none, filled_more}
use Rattle.sums.proofs.Keyed.{keyed_none, keyed_step}
use Rattle.merit.proofs.Schedule.{schedule_taken}
use Rattle.dispatch.proofs.fill.Goals as goal

pub loop-i-init : goal.loop-i-init
loop-i-init c = record { filled = filled_none 0 _ _; left = rw keyed_none (omega (arith, c.left_below-left.ensures)) }

pub loop-i-preserved : goal.loop-i-preserved
loop-i-preserved c =
    let l = c.loop-i in
    record {
      filled =
          filled_more 0 _ _ _ _ _ (omega arith)
          (c.portion_at.ensures ∙ schedule_taken _ _ _ _ _ c.reach-m.ensures _ _ (omega arith) l.invariant.left) l.invariant.filled;
      left = rw keyed_step (omega arith);
    }
