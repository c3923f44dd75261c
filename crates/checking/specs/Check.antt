-- Document 02, P6: what a check of an administrator's statement answers, for any bytes, a price and four lists. Assumes nothing.
use Rattle.std.specs.Prelude.{ℕ, List, [], ◌∷◌}
use Rattle.refusals.specs.Refusals.{first_of}
use Rattle.refusals.specs.Refusals.{Verdict}
use Rattle.sheet.specs.Reading.{read_verdict}
use Rattle.columns.specs.Columns.{hour_of}
use Rattle.hour.specs.Sheet.{Sheet}
use Rattle.hour.specs.Answer.{Lent, hour_verdict}
use Rattle.statement.specs.Tests.{points_verdict}

-- of a sheet that reading accepts: the refusals of its hour, then the first point that fails
unfoldable pub stated_verdict : Sheet → (price : ℕ) → Lent → Verdict
stated_verdict h price l = first_of (hour_verdict h l ∷ points_verdict h price l ∷ [])

-- refusals 1 to 6 are reading's, 7 to 10, 13 and 11 the hour's, where 11 is a list too short for the counts; then 21 to 25, for the
-- first point that fails
unfoldable pub check_verdict : List ℕ → (price : ℕ) → Lent → Verdict
check_verdict bytes price l = first_of (read_verdict bytes ∷ hour_verdict (hour_of bytes) l ∷ points_verdict (hour_of bytes) price l ∷ [])
