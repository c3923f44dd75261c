use Rattle.std.proofs.Common.{◌≡◌, ◌≤◌}
use Rattle.sums.specs.Sums.{sum}
use Rattle.sums.specs.Lists.{at}
use Rattle.rows.specs.Rows.{carries_losses}
use Rattle.statement.specs.Decide.{every}
use Rattle.statement.specs.Tests.{share_test}
use Rattle.checking.specs.Passes.{room}
use Rattle.checking.specs.Parts.{share_at}
use Rattle.checking.proofs.shares.good.Given as goal

abbrev pub invariant-loop-a : goal.invariant-loop-a
invariant-loop-a l =
    record {
      fine : l.fine ≡ every l.a
          (λ k. share_test (carries_losses (at l.kinds k)) l.losses (at l.used k) l.consumed (share_at l.figures k));
      sum : l.sum ≡ sum l.a (share_at l.figures);
      most : l.sum ≤ room l.a;
    }
