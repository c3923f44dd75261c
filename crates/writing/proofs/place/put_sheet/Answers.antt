use Rattle.std.proofs.Common.{◌≡◌, arith}
use Rattle.sums.proofs.Fill.{filled_none}
use Rattle.writing.proofs.Put.{row_more}
use Rattle.writing.proofs.place.put_sheet.Goals as goal

pub loop-r-init : goal.loop-r-init
loop-r-init c = filled_none _ _ _

pub overflow_mul-r : goal.overflow_mul-r
overflow_mul-r c = let l = c.loop-r.invariant.long in omega arith

pub put_row-requires : goal.put_row-requires
put_row-requires c = let l = c.loop-r.invariant.long in omega arith

pub loop-r-preserved : goal.loop-r-preserved
loop-r-preserved c =
    rw (c.put_row.ensures, c.row_words-w.ensures) (row_more _ _ _ _ (omega arith) c.loop-r.invariant)

pub returns : goal.returns
returns c = let e : c.loop-r.r ≡ c.args.rows = omega arith in rw e at c.loop-r.invariant
