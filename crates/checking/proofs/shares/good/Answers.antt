use Rattle.std.proofs.Common.{sym, arith}
use Rattle.sums.proofs.Sums.{sum_none, sum_step}
use Rattle.checking.specs.Parts.{share_at}
use Rattle.checking.proofs.Loops.{every_none, every_more}
use Rattle.checking.proofs.shares.good.Goals as goal

pub loop-a-init : goal.loop-a-init
loop-a-init c = record { fine = sym (every_none _); sum = sym (sum_none _); most = omega arith }

pub loop-a-preserved : goal.loop-a-preserved
loop-a-preserved c =
    let l = c.loop-a in
    record {
      fine = every_more _ _ _ _ l.invariant.fine c.share_good-fine.ensures;
      sum = omega (arith, sum_step l.a (share_at c.args.figures.now));
      most = omega arith;
    }
