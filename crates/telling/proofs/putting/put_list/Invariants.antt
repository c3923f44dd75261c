-- The lines of the rows that are left come before those that stand.
use Rattle.std.proofs.Common.{◌*◌, ◌≤◌, [], ◌∷◌, length, get_or}
use Rattle.text.specs.Written.{row_text}
use Rattle.telling.proofs.Going.{Going}
use Rattle.telling.proofs.putting.put_list.Given as goal

abbrev pub invariant-loop-row : goal.invariant-loop-row
invariant-loop-row l =
    51 * length l.list ≤ l.at
    → l.at ≤ length l.fn.s
    → Going 51 (λ i. row_text l.word (i ∷ get_or l.list i 0 ∷ [])) l.fn.s l.at (length l.list) l.s l.i l.row
