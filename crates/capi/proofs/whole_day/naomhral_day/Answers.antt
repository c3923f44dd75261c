use Rattle.std.proofs.Common.{ap, ◌∙◌}
use Rattle.refusals.specs.Refusals.{number_of}
use Rattle.capi.proofs.WholeDay.{day_short, day_told}
use Rattle.capi.proofs.whole_day.naomhral_day.Goals as goal

pub returns-then-summaries-lt-ALL : goal.returns-then-summaries-lt-ALL
returns-then-summaries-lt-ALL c = day_short _ _ _ _ c.if-summaries-lt-ALL.true

pub returns : goal.returns
returns c =
    day_told _ _ _ _ _ _ _ _ c.if-summaries-lt-ALL.false
    (c.number_of.ensures ∙ ap number_of c.judge-whole.ensures) c.settle_day-all.ensures
    c.tell_hours.ensures
