-- The lines of the agents that are left come before those that stand.
use Rattle.std.proofs.Common.{◌*◌, ◌≤◌, [], length}
use Rattle.hour.specs.Answer.{lent}
use Rattle.telling.specs.Text.{agent_line}
use Rattle.telling.proofs.Going.{Going}
use Rattle.telling.proofs.putting.put_agents.Given as goal

abbrev pub invariant-loop-a : goal.invariant-loop-a
invariant-loop-a l =
    175 * length l.money ≤ l.at → l.at ≤ length l.fn.s → Going 175 (agent_line (lent l.figures l.money [] [])) l.fn.s l.at (length l.money) l.s l.i l.a
