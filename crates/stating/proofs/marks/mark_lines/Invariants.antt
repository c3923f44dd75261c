-- What was seen so far, with the marks beside it, is what the lines so far give.
use Rattle.std.proofs.Common.{◌≡◌, ◌≤◌, length, map}
use Rattle.text.specs.Lines.{over}
use Rattle.stating.specs.Rows.{mark_line, unmarked}
use Rattle.stating.specs.Steps.{seen, MarksFit}
use Rattle.stating.proofs.marks.mark_lines.Given as goal

abbrev pub invariant-loop-line : goal.invariant-loop-line
invariant-loop-line l = record {
  walked : seen l.j l.marks ≡ over (mark_line l.c) (unmarked l.c) (map (λ x. x.now) l.yielded);
  few : l.j.line ≤ length l.yielded;
  fit : MarksFit l.c l.marks;
}
