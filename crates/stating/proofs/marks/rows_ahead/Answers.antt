-- What stands before a word's rows is at most all rows.
use Rattle.std.proofs.Common.{◌+◌, ◌≤◌, ℕ, Bool, true, false, cond, eqb, arith}
use Rattle.sheet.specs.declared.Counts.{Counts}
use Rattle.stating.specs.Rows.{all_rows, rows_ahead}
use Rattle.stating.proofs.marks.rows_ahead.Goals as goal

either : (t : Bool) (x y : ℕ) → x ≤ 385 → y ≤ 385 → cond t x y ≤ 385
either true x y h k = h
either false x y h k = k

most : (c : Counts) (k : ℕ) → all_rows c ≤ 385 → rows_ahead c k ≤ 385
unfolding rows_ahead
most c k h =
    either (eqb k 1) 1 _ (omega arith)
    (either (eqb k 3) (1 + c.agents) _ (omega arith)
    (either (eqb k 4) (1 + c.agents + c.plants) _ (omega arith) (either (eqb k 5) 0 0 (omega arith) (omega arith))))

pub returns : goal.returns
unfolding rows_ahead
returns c =
    let e = c.by_word.ensures in
    (e, rw e (most c.args.c c.args.k c.requires))
