use Rattle.std.proofs.Common.{arith}
use Rattle.stating.proofs.Marking.{place_within}
use Rattle.stating.proofs.marks.row_fault.Goals as goal

-- the row is one of the sheet's
pub bounds-marks-rows_ahead : goal.bounds-marks-rows_ahead
bounds-marks-rows_ahead c =
    let n = c.row_number-n.ensures.0 in
    let here = place_within c.args.c c.args.l (omega (arith, c.if-rows_for-n.false, c.rows_for.ensures, n)) in
    omega (arith, here, c.requires.long, c.rows_ahead.ensures.0, n)
