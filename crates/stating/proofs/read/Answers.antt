use Rattle.std.proofs.Common.{◌≡◌, Err, sym, ◌∙◌, rules}
use Rattle.hour.specs.Answer.{lent}
use Rattle.stating.proofs.Reading.{counts_good_lem, not_fit, wrong_line, all_read}
use Rattle.stating.proofs.read.Goals as goal

pub returns-then-not-lists_fit : goal.returns-then-not-lists_fit
returns-then-not-lists_fit c =
    let a = c.args in
    not_fit a.text.now a.c (lent a.figures.now a.money.now a.schedule.now a.amounts.now)
    (sym c.lists_fit.ensures ∙ c.if-not-lists_fit.true)

pub judge-requires : goal.judge-requires
judge-requires c =
    let a = c.args in
    counts_good_lem a.c (lent a.figures.now a.money.now a.schedule.now a.amounts.now)
    (sym c.lists_fit.ensures ∙ c.if-not-lists_fit.false)

pub returns-in_err-judge : goal.returns-in_err-judge
returns-in_err-judge c =
    let a = c.args in
    let w = c.in_err-judge.field-0.0 in
    let e : c.from_residual.result ≡ Err w = search rules in
    rw e
    (wrong_line a.text.now a.c (lent a.figures.now a.money.now a.schedule.now a.amounts.now) w
    (sym c.lists_fit.ensures ∙ c.if-not-lists_fit.false) (sym c.in_err-judge.was ∙ c.judge.ensures))

pub returns : goal.returns
returns c =
    let a = c.args in
    all_read a.text.now a.c (lent a.figures.now a.money.now a.schedule.now a.amounts.now) _ c.fill.result
    (sym c.lists_fit.ensures ∙ c.if-not-lists_fit.false) (sym c.in_ok-judge.was ∙ c.judge.ensures) c.fill.ensures.1 c.fill.ensures.0
