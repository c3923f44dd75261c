-- The search from here, behind the lines that were passed, tells the whole.
use Rattle.std.proofs.Common.{◌≡◌, length, drop}
use Rattle.text.specs.Lines.{lines}
use Rattle.typing.specs.Made.{line_of_row, line_from}
use Rattle.typing.proofs.places.line_of_row.Given as goal

abbrev pub invariant-loop-i : goal.invariant-loop-i
invariant-loop-i l =
    line_of_row l.section l.row l.s ≡ line_from l.section l.left (length l.yielded) (drop (length l.yielded) (lines l.s))
