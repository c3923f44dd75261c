use Rattle.std.proofs.Common.{sym, arith, length}
use Rattle.sums.specs.Lists.{at}
use Rattle.sums.proofs.Sums.{sum_none, sum_step, sum_front}
use Rattle.checking.proofs.shares.total.Goals as goal

pub loop-value-init : goal.loop-value-init
loop-value-init c = sym (sum_none _)

pub overflow_add-sum : goal.overflow_add-sum
overflow_add-sum c =
    let xs = c.args.values.now in
    omega (arith, sum_front (length xs) c.loop-value.value-index (at xs) (omega arith), c.requires)

pub loop-value-preserved : goal.loop-value-preserved
loop-value-preserved c = omega (arith, sum_step c.loop-value.value-index (at c.args.values.now))
