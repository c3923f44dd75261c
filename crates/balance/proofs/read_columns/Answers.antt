use Rattle.std.proofs.Common.{arith}
use Rattle.sheet.proofs.Accepted.{accepted_few}
use Rattle.balance.proofs.read_columns.Goals as goal

pub sort_out-requires-clause-metered : goal.sort_out-requires-clause-metered
sort_out-requires-clause-metered c =
    let f = (accepted_few _ _ c.requires).agents in
    (c.meter.ensures, omega (arith, f), omega (arith, f), omega (arith, f), omega (arith, f))
