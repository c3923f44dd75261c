-- What weighing leaves in the columns is what trading asks for, and all else of the columns is the sheet's already.
use Rattle.std.proofs.Common.{arith}
use Rattle.columns.proofs.Columns.{agents_long, plants_long, contracts_long}
use Rattle.settle.proofs.Judged.{tradable, columns_traded}
use Rattle.settle.proofs.settle_columns.Goals as goal

pub trade-requires-clause-tradable : goal.trade-requires-clause-tradable
trade-requires-clause-tradable c =
    tradable _ _ _ _ _ c.admit_with-w.ensures c.requires.own_value.0 _ _
    (λ r.
    let room = c.requires.own_value.1 r in
    let p = plants_long c.args.bytes.now c.args.c in
    let k = contracts_long c.args.bytes.now c.args.c in
    (omega (arith, p, room.0), omega (arith, k, room.1)))

pub returns : goal.returns
returns c = columns_traded _ _ _ _ _ c.admit_with-w.ensures _ (agents_long _ _) _ _ _ _ _ _ _ c.trade.ensures
