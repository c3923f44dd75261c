-- The whole call is judged before any hour is read: a refusal stands in all summaries and changes nothing, and where there is none all
-- sheets and parts are there.
use Rattle.std.proofs.Common.{sym, ◌∙◌}
use Rattle.hour.specs.Answer.{lent}
use Rattle.day.specs.Day.{day_verdict}
use Rattle.day.proofs.Hours.{fits_of, day_done, day_refused}
use Rattle.day.proofs.settle_day.Goals as goal

pub returns-in-Err : goal.returns-in-Err
returns-in-Err c =
    let a = c.args in
    let l = lent a.figures.now a.money.now a.schedule.now a.amounts.now in
    rw c.alike.ensures
    (day_refused _ _ _ (day_verdict a.sheets.now a.lengths.now l) _ (sym c.judge-verdict.ensures ∙ c.in-Err.is))

pub settle_hours-requires : goal.settle_hours-requires
settle_hours-requires c = fits_of _ _ _ (sym c.judge-verdict.ensures ∙ c.in_default.is)

pub returns : goal.returns
returns c = day_done _ _ _ _ _ _ (sym c.judge-verdict.ensures ∙ c.in_default.is) c.settle_hours.ensures
