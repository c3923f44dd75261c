use Rattle.std.proofs.Common.{refl, arith}
use Rattle.checking.proofs.Runs.{ran_none, ran_more}
use Rattle.checking.proofs.plants.run_all.Goals as goal

pub loop-i-init : goal.loop-i-init
loop-i-init c = ran_none _ _ _ _ _ _ refl refl refl refl

pub loop-i-preserved : goal.loop-i-preserved
loop-i-preserved c = ran_more _ _ _ _ _ c.loop-i.i _ _ c.run_one-v.ensures (omega arith) c.loop-i.invariant
