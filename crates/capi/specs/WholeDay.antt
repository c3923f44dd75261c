-- What a C caller is told of a day: the number of what refused the whole call, and the 24 summaries as numbers in a lent list. Where
-- that list is too short for them the function answers 11 and changes nothing at all. Assumes nothing.
use Rattle.std.specs.Prelude.{ℕ, ◌*◌, ◌/◌, ◌%◌, Bool, cond, List, ◌≡◌, leb, length, get_or}
use Rattle.sums.specs.Lists.{at, list_to, Filled}
use Rattle.refusals.specs.Refusals.{no_room, number_of, refused, or_else}
use Rattle.refusals.specs.Refusals.{Verdict}
use Rattle.columns.specs.Columns.{hour_of}
use Rattle.hour.specs.Answer.{Lent, summary_of}
use Rattle.hour.specs.declared.Summary.{Summary}
use Rattle.settle.specs.Settled.{verdict_of}
use Rattle.day.specs.Day.{hours, hour_sheet, part_of, day_verdict, no_summary, DayOutcome}
use Rattle.capi.specs.Told.{summary_answer}

-- five numbers an hour, hour by hour
abbrev pub hour_numbers : ℕ
hour_numbers = 5

abbrev pub day_numbers : ℕ
day_numbers = hour_numbers * hours

unfoldable pub day_cell : List Summary → ℕ → ℕ
day_cell all k = at (summary_answer (get_or all (k / hour_numbers) no_summary)) (k % hour_numbers)

-- the summaries of a day by the verdict v of the whole call: its refusal in all of them, and else each hour's own
abbrev pub summary_at : Verdict → (bytes lengths : List ℕ) → Lent → ℕ → Summary
summary_at v bytes lengths l h =
    summary_of (or_else v (verdict_of (hour_sheet bytes lengths h) (part_of l h))) (hour_of (hour_sheet bytes lengths h))

unfoldable pub summaries_of : Verdict → (bytes lengths : List ℕ) → Lent → List Summary
summaries_of v bytes lengths l = list_to (summary_at v bytes lengths l) hours

-- the verdict, where the list of summaries may have no room
abbrev pub told_verdict : (bytes lengths : List ℕ) → Lent → (room : Bool) → Verdict
told_verdict bytes lengths l room = cond room (day_verdict bytes lengths l) (refused no_room 0)

pub record DayTold (bytes lengths : List ℕ) (before after : Lent) (list : List ℕ) (r : ℕ) (list' : List ℕ) : Type 0 where
  pub number : r ≡ number_of (told_verdict bytes lengths before (leb day_numbers (length list)))
  pub told : Filled 0 list list' (cond (leb day_numbers (length list)) day_numbers 0)
      (day_cell (summaries_of (day_verdict bytes lengths before) bytes lengths before))
  pub day : DayOutcome (told_verdict bytes lengths before (leb day_numbers (length list))) bytes lengths before after
      (summaries_of (told_verdict bytes lengths before (leb day_numbers (length list))) bytes lengths before)
