-- A settled hour's lists are the definition's, and with a row that is there so are its buyer's demand and the figures told.
use Rattle.std.proofs.Common.{◌≡◌, ◌<◌, Err, ap, ◌∙◌, rules, arith}
use Rattle.rows.specs.Rows.{contract_of}
use Rattle.limits.specs.declared.Contract.{Contract}
use Rattle.octets.specs.declared.Words.{Words}
use Rattle.sheet.proofs.Accepted.{accepted_few, accepted_contract}
use Rattle.columns.specs.Columns.{hour_of, sheet_verdict}
use Rattle.reasons.proofs.Asked.{answered_fine, answered_refused}
use Rattle.reasons.proofs.Told.{contract_refused, contract_absent, contract_told_lem, amount_at_lem, demand_at}
use Rattle.reasons.proofs.why_contract_read.Goals as goal

pub returns-in_err-settle_hour : goal.returns-in_err-settle_hour
returns-in_err-settle_hour c =
    let a = c.args in
    let f : c.from_residual.result ≡ Err c.in_err-settle_hour.field-0.0 = search rules in
    let d = rw c.in_err-settle_hour.was at c.settle_hour.ensures in
    f ∙ contract_refused a.bytes.now a.contract _ (answered_refused (sheet_verdict a.bytes.now) (hour_of a.bytes.now) _ d.answer)

pub returns-then-c-j : goal.returns-then-c-j
returns-then-c-j c =
    let a = c.args in
    let d = rw c.in_ok-settle_hour.was at c.settle_hour.ensures in
    contract_absent a.bytes.now a.c c.requires (answered_fine (sheet_verdict a.bytes.now) (hour_of a.bytes.now) _ d.answer) a.contract
    c.if-c-j.true

pub overflow_add-c : goal.overflow_add-c
overflow_add-c c = omega (arith, accepted_few _ _ c.requires)

pub overflow_add-c-2 : goal.overflow_add-c-2
overflow_add-c-2 c = omega (arith, accepted_few _ _ c.requires)

pub overflow_add-c-3 : goal.overflow_add-c-3
overflow_add-c-3 c = omega (arith, accepted_few _ _ c.requires, c.if-c-j.false)

-- its buyer has a demand
pub bounds-own-k : goal.bounds-own-k
bounds-own-k c =
    let row = c.contract_of-k.ensures ∙ ap (λ (x : Words). contract_of x) c.row_at.ensures in
    let e = ap (λ (k : Contract). k.buyer) row in
    let there : c.args.contract < c.args.c.contracts = omega (arith, c.if-c-j.false) in
    omega (arith, e, (accepted_contract _ _ c.requires _ there).buyer_there, (accepted_few _ _ c.requires).agents)

pub bounds-amounts-j : goal.bounds-amounts-j
bounds-amounts-j c = omega (arith, (accepted_few _ _ c.requires).contracts, c.if-c-j.false)

pub returns : goal.returns
returns c =
    let a = c.args in
    let d = rw c.in_ok-settle_hour.was at c.settle_hour.ensures in
    let ok = answered_fine (sheet_verdict a.bytes.now) (hour_of a.bytes.now) _ d.answer in
    let there : a.contract < a.c.contracts = omega (arith, c.if-c-j.false) in
    let row = c.contract_of-k.ensures ∙ ap (λ (x : Words). contract_of x) c.row_at.ensures in
    contract_told_lem a.bytes.now a.c c.requires ok a.contract there c.contract_of-k.result row _ _
    (amount_at_lem a.bytes.now a.c c.requires ok a.contract _ _ _ _ _ _ d there)
    (demand_at a.bytes.now a.c c.requires ok a.contract _ _ _ _ _ _ d there _ (ap (λ (k : Contract). k.buyer) row))
    c.judge.result c.judge.ensures
