-- What a C caller is told of mending. Assumes nothing.
use Rattle.std.specs.Prelude.{ℕ, ◌*◌, cond, List, length, leb}
use Rattle.sums.specs.Lists.{Filled}
use Rattle.refusals.specs.Refusals.{cells}
use Rattle.mend.specs.Mend.{mended_at, changes, report_at, mend_verdict}
use Rattle.capi.specs.Told.{Told, length_answer}

-- number, place and how many bytes were changed, 0 where refused; the copy, and the report of three cells a change
pub record MendTold (s copy report list : List ℕ) (r : ℕ) (copy' report' list' : List ℕ) : Type 0 where
  pub told : Told 3 (length_answer (mend_verdict s (length copy) (length report)) (changes s)) list r list'
  pub copied : Filled 0 copy copy'
      (cond (leb 3 (length list)) (cells (mend_verdict s (length copy) (length report)) (length s)) 0) (mended_at s)
  pub reported : Filled 0 report report'
      (cond (leb 3 (length list)) (cells (mend_verdict s (length copy) (length report)) (3 * changes s)) 0) (report_at s)
