-- The sum so far is no more than 32 bits an hour.
use Rattle.std.proofs.Common.{◌≡◌, ◌*◌, ◌≤◌}
use Rattle.day.specs.Day.{start_of}
use Rattle.day.proofs.total.Given as goal

abbrev pub invariant-loop-length : goal.invariant-loop-length
invariant-loop-length l = record {
  sum : l.sum ≡ start_of l.lengths l.length-index;
  most : l.sum ≤ 4294967295 * l.length-index;
}
