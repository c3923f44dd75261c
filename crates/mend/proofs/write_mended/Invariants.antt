use Rattle.std.proofs.Common.{◌≡◌, ◌*◌}
use Rattle.sums.specs.Lists.{Filled}
use Rattle.mend.specs.Mend.{count_to, changed, mended_at, report_at}
use Rattle.mend.proofs.write_mended.Given as goal

abbrev pub invariant-loop-k : goal.invariant-loop-k
invariant-loop-k l =
    record {
      noted : l.n ≡ count_to (changed l.s) l.k;
      copied : Filled 0 l.initial.copy l.copy l.k (mended_at l.s);
      reported : Filled 0 l.initial.report l.report (3 * l.n) (report_at l.s);
    }
