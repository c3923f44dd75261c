-- The list begins with the numbers of the lines so far, and is as it was behind them.
use Rattle.std.proofs.Common.{◌≡◌, ◌≤◌, length, map, take, drop, []}
use Rattle.text.specs.Lines.{over}
use Rattle.typing.specs.Rows.{gather_line}
use Rattle.typing.proofs.gather.gather.Given as goal

abbrev pub invariant-loop-line : goal.invariant-loop-line
invariant-loop-line l = record {
  room : l.k ≤ length l.out;
  long : length l.out ≡ length l.fn.out;
  front : take l.k l.out ≡ over (gather_line l.section) [] (map (λ x. x.now) l.yielded);
  rest : drop l.k l.out ≡ drop l.k l.fn.out;
}
