use Rattle.std.proofs.Common.{◌≡◌, ◌+◌, [], length}
use Rattle.printing.specs.Text.{lines_to}
use Rattle.printing.specs.Agents.{line_in}
use Rattle.printing.specs.Put.{Appended}
use Rattle.printing.proofs.write_lines.Given as goal

abbrev pub invariant-loop-a : goal.invariant-loop-a
invariant-loop-a l =
    (l.k ≡ l.from + length (lines_to (line_in l.agents) l.a []))
    × Appended (lines_to (line_in l.agents) l.a []) l.from l.fn.out l.out
