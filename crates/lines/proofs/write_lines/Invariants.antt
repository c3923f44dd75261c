use Rattle.std.proofs.Common.{◌*◌, pos}
use Rattle.sums.specs.Lists.{Filled}
use Rattle.hour.specs.Lines.{cells_per_agent}
use Rattle.lines.specs.Lines.{line_cell, line_money}
use Rattle.lines.proofs.write_lines.Given as goal

abbrev pub invariant-loop-a : goal.invariant-loop-a
invariant-loop-a l = record {
  figures : Filled 0 l.initial.figures l.figures (cells_per_agent * l.a) (line_cell l.kinds l.shares l.own l.imports l.contracted);
  money : Filled (pos 0) l.initial.money l.money l.a (line_money l.kinds l.own l.imports l.contracted l.price);
}
