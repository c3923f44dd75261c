-- A refusal leaves the lists as they were; where there is none, agreeing and generating fill them, and the columns with them.
use Rattle.std.proofs.Common.{◌≤◌, length, ap, arith}
use Rattle.sheet.proofs.Accepted.{accepted_few}
use Rattle.columns.proofs.Columns.{agents_long}
use Rattle.settle.specs.Parts.{verdict_on}
use Rattle.settle.proofs.Judged.{demands_are, trade_refused, traded}
use Rattle.settle.proofs.trade.Goals as goal

pub returns-in-Err : goal.returns-in-Err
returns-in-Err c = rw c.turned_away.ensures (trade_refused _ _ (ap verdict_on c.in-Err.is) _ _ _ _ _)

pub agree-requires-clause-column_len : goal.agree-requires-clause-column_len
agree-requires-clause-column_len c =
    let few = (accepted_few _ _ c.requires.bytes_value).agents in
    let clear = rw c.in-Ok.is at c.requires.tradable in
    let each : c.args.c.agents ≤ length c.args.held.now = omega (arith, few) in
    (omega arith, record { demands = demands_are _ _ _ (agents_long _ _) each clear.demands; fits = clear.fits })

pub generate-price-requires-clause-covered : goal.generate-price-requires-clause-covered
generate-price-requires-clause-covered c = let clear = rw c.in-Ok.is at c.requires.tradable in clear.covered

pub returns : goal.returns
returns c =
    let clear = rw c.in-Ok.is at c.requires.tradable in
    traded _ (ap verdict_on c.in-Ok.is) _ _ _ _ _ _ clear _ _ _ _ _ _ _ c.generate-price.ensures c.agree.ensures
