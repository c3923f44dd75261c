use Rattle.std.proofs.Common.{◌≡◌, sym, arith}
use Rattle.sums.proofs.Sums.{sum_none, sum_step}
use Rattle.day.specs.Day.{hours}
use Rattle.day.proofs.total.Goals as goal

pub loop-length-init : goal.loop-length-init
loop-length-init c = record { sum = sym (sum_none _); most = omega arith }

pub loop-length-preserved : goal.loop-length-preserved
loop-length-preserved c =
    let i = c.loop-length.invariant in record { sum = rw sum_step (omega (arith, i.sum)); most = omega (arith, i.most) }

pub returns : goal.returns
returns c = let e : c.loop-length.length-index ≡ hours = omega arith in rw e at c.loop-length.invariant.sum
