use Rattle.std.proofs.Common.{◌≡◌, sym, arith}
use Rattle.entry.proofs.Steps.{bought_none, bought_more}
use Rattle.entry.proofs.all_bought.Goals as goal

pub loop-a-init : goal.loop-a-init
loop-a-init c = record { sum = sym (bought_none _); most = omega arith }

pub loop-a-preserved : goal.loop-a-preserved
loop-a-preserved c =
    let i = c.loop-a.invariant in record { sum = rw (bought_more _ _) (omega arith); most = omega arith }

pub returns : goal.returns
returns c = let e : c.loop-a.a ≡ c.args.n = omega arith in rw e at c.loop-a.invariant.sum
