-- After h turns the first h hours are settled, each into its part, and the next sheet begins where theirs end.
use Rattle.std.proofs.Common.{◌≡◌}
use Rattle.hour.specs.Answer.{lent}
use Rattle.day.specs.Day.{start_of}
use Rattle.day.specs.Steps.{HoursDone}
use Rattle.day.proofs.settle_hours.Given as goal

abbrev pub invariant-loop-h : goal.invariant-loop-h
invariant-loop-h l = record {
  start : l.start ≡ start_of l.lengths l.h;
  done : HoursDone l.h l.sheets l.lengths (lent l.fn.figures l.fn.money l.fn.schedule l.fn.amounts)
      (lent l.figures l.money l.schedule l.amounts) l.all;
}
