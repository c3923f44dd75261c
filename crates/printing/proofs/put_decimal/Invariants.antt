-- As many digits are still allowed as 19 less those that stand, what is left has no more, and spelling it gives the whole.
use Rattle.std.proofs.Common.{◌≡◌, ◌+◌, ◌-◌, ◌^◌, ◌<◌, ◌≤◌, length, drop}
use Rattle.printing.specs.Text.{spell}
use Rattle.printing.proofs.put_decimal.Given as goal

abbrev pub invariant-loop-rest : goal.invariant-loop-rest
invariant-loop-rest l = record {
  few : l.rest < 10 ^ (l.i + 19 - l.at + 1);
  low : l.at ≤ l.i + 19;
  high : l.i ≤ l.at;
  long : length l.s ≡ length l.fn.s;
  whole : spell 19 l.n (drop l.at l.fn.s) ≡ spell (l.i + 19 - l.at) l.rest (drop l.i l.s);
}

abbrev pub decreases-loop-rest : goal.decreases-loop-rest
decreases-loop-rest l = l.rest
