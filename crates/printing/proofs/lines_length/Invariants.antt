use Rattle.std.proofs.Common.{◌≡◌, ◌*◌, ◌≤◌, [], length}
use Rattle.printing.specs.Text.{lines_to}
use Rattle.printing.specs.Agents.{line_in}
use Rattle.printing.proofs.lines_length.Given as goal

abbrev pub invariant-loop-a : goal.invariant-loop-a
invariant-loop-a l = (l.k ≡ length (lines_to (line_in l.agents) l.a [])) × (l.k ≤ 169 * l.a)
