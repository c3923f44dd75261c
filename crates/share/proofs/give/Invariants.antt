-- What is left for those at the crossing is what the weights before have not taken.
use Rattle.std.proofs.Common.{◌≡◌, ◌-◌}
use Rattle.sums.specs.Sums.{keyed}
use Rattle.sums.specs.Lists.{Filled}
use Rattle.share.specs.Share.{share_of}
use Rattle.share.specs.Lacks.{lack_of, one}
use Rattle.share.proofs.give.Given as goal

abbrev pub invariant-loop-i : goal.invariant-loop-i
invariant-loop-i l =
    record {
      rest : l.rest ≡ l.left - keyed (lack_of l.p.amount l.p.weights.now) one l.i l.x;
      filled : Filled 0 l.initial.out l.out l.i (share_of l.p.amount l.p.weights.now);
    }
