use Rattle.std.proofs.Common.{◌≡◌, is_some, false, ap, sym, ◌∙◌, arith}
use Rattle.stating.specs.Rows.{statement_fault}
use Rattle.stating.proofs.Marking.{place_within, right_row}
use Rattle.stating.proofs.marks.mark.Goals as goal

-- the line is right, so it is about a row of the sheet
pub bounds-marks-rows_ahead : goal.bounds-marks-rows_ahead
bounds-marks-rows_ahead c =
    let a = c.args in
    let right : is_some (statement_fault a.c a.marks.now a.l) ≡ false =
    ap is_some (sym c.requires.1) ∙ sym c.is_some.ensures ∙ c.if-is_some.false in
    let here = place_within a.c a.l (right_row a.c a.marks.now a.l right c.if-l-eq0.false) in
    omega (arith, here, c.requires.0.long, c.rows_ahead.ensures.0, c.row_number-n.ensures.0)
