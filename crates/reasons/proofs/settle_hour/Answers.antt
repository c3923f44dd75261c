-- What weighing leaves in the columns is what trading asks for; the lists have room for every sheet, so the verdict is the sheet's.
use Rattle.std.proofs.Common.{◌≡◌, Err, rules, arith}
use Rattle.sheet.proofs.Accepted.{accepted_few}
use Rattle.columns.proofs.Columns.{plants_long, contracts_long}
use Rattle.settle.proofs.Judged.{tradable}
use Rattle.reasons.proofs.Asked.{hour_settled, hour_refused}
use Rattle.reasons.proofs.settle_hour.Goals as goal

pub trade-requires-clause-tradable : goal.trade-requires-clause-tradable
trade-requires-clause-tradable c =
    let few = accepted_few _ _ c.requires.bytes_value in
    let p = plants_long c.args.bytes.now c.args.c in
    let k = contracts_long c.args.bytes.now c.args.c in
    let own = c.requires.own_value in
    tradable _ _ _ _ _ (rw c.in_ok-w.was at c.admit_with.ensures) own.0 _ _
    (λ _. (omega (arith, p, few.plants, own.1), omega (arith, k, few.contracts, own.2)))

pub returns-in_err-w : goal.returns-in_err-w
returns-in_err-w c =
    let f : c.from_residual.result ≡ Err c.in_err-w.field-0.0 = search rules in
    rw f (hour_refused _ _ c.requires.bytes_value _ _ _ (rw c.in_err-w.was at c.admit_with.ensures) _ _ _)

pub returns : goal.returns
returns c =
    hour_settled _ _ c.requires.bytes_value _ _ _ (rw c.in_ok-w.was at c.admit_with.ensures) _ _ _ _ _ _ _ c.trade.ensures
