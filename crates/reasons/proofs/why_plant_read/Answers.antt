-- A settled hour's lists are the definition's, and with a row that is there so are the figures told.
use Rattle.std.proofs.Common.{◌≡◌, ◌<◌, Err, ap, ◌∙◌, rules, arith}
use Rattle.rows.specs.Rows.{plant_of}
use Rattle.octets.specs.declared.Words.{Words}
use Rattle.sheet.proofs.Accepted.{accepted_few}
use Rattle.columns.specs.Columns.{hour_of, sheet_verdict}
use Rattle.reasons.proofs.Asked.{answered_fine, answered_refused}
use Rattle.reasons.proofs.Told.{plant_refused, plant_absent, plant_told_lem, schedule_at, price_told}
use Rattle.reasons.proofs.why_plant_read.Goals as goal

pub returns-in_err-price : goal.returns-in_err-price
returns-in_err-price c =
    let a = c.args in
    let f : c.from_residual.result ≡ Err c.in_err-price.field-0.0 = search rules in
    let d = rw c.in_err-price.was at c.settle_hour.ensures in
    f ∙ plant_refused a.bytes.now a.plant _ (answered_refused (sheet_verdict a.bytes.now) (hour_of a.bytes.now) _ d.answer)

pub returns-then-c-i : goal.returns-then-c-i
returns-then-c-i c =
    let a = c.args in
    let d = rw c.in_ok-price.was at c.settle_hour.ensures in
    plant_absent a.bytes.now a.c c.requires (answered_fine (sheet_verdict a.bytes.now) (hour_of a.bytes.now) _ d.answer) a.plant
    c.if-c-i.true

pub overflow_add-c : goal.overflow_add-c
overflow_add-c c = omega (arith, accepted_few _ _ c.requires)

pub overflow_add-c-2 : goal.overflow_add-c-2
overflow_add-c-2 c = omega (arith, accepted_few _ _ c.requires, c.if-c-i.false)

pub bounds-schedule-i : goal.bounds-schedule-i
bounds-schedule-i c = omega (arith, (accepted_few _ _ c.requires).plants, c.if-c-i.false)

pub bounds-schedule-i-2 : goal.bounds-schedule-i-2
bounds-schedule-i-2 c = omega (arith, (accepted_few _ _ c.requires).plants, c.if-c-i.false)

pub returns : goal.returns
returns c =
    let a = c.args in
    let d = rw c.in_ok-price.was at c.settle_hour.ensures in
    let ok = answered_fine (sheet_verdict a.bytes.now) (hour_of a.bytes.now) _ d.answer in
    let there : a.plant < a.c.plants = omega (arith, c.if-c-i.false) in
    let row = c.plant_of-p.ensures ∙ ap (λ (x : Words). plant_of x) c.row_at.ensures in
    plant_told_lem a.bytes.now a.c c.requires ok a.plant there c.plant_of-p.result row _ _
    (schedule_at a.bytes.now a.c c.requires ok a.plant _ _ _ _ _ _ d there)
    (price_told a.bytes.now a.c c.requires ok a.plant _ _ _ _ _ _ d)
    c.judge_plant.result c.judge_plant.ensures
