use Rattle.std.proofs.Common.{◌*◌}
use Rattle.sums.specs.Lists.{Filled}
use Rattle.capi.specs.WholeDay.{hour_numbers, day_cell}
use Rattle.capi.proofs.whole_day.tell_hours.Given as goal

abbrev pub invariant-loop-h : goal.invariant-loop-h
invariant-loop-h l = Filled 0 l.initial.out l.out (hour_numbers * l.h) (day_cell l.s-items)
