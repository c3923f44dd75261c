-- What was seen so far is what the lines so far give, and no more lines were seen than there are.
use Rattle.std.proofs.Common.{◌≡◌, ◌≤◌, length, map}
use Rattle.text.specs.Lines.{over}
use Rattle.typing.specs.Rows.{scan_line, unscanned}
use Rattle.typing.specs.Steps.{Sparse}
use Rattle.typing.proofs.scans.scan.Given as goal

abbrev pub invariant-loop-line : goal.invariant-loop-line
invariant-loop-line l = record {
  walked : l.j ≡ over (scan_line l.rooms) unscanned (map (λ x. x.now) l.yielded);
  few : l.j.line ≤ length l.yielded;
  sparse : Sparse l.j;
}
