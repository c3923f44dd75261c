use Rattle.std.proofs.Common.{arith, min, length, length-take-le}
use Rattle.crossing.proofs.Rows.{crossing_front}
use Rattle.crossing.proofs.reach.Goals as goal

pub returns : goal.returns
returns c =
    let a = c.args in
    let n = min (length a.keys.now) (length a.values.now) in
    crossing_front a.keys.now a.values.now n a.demand c.close_in.result
    (rw (c.min-n.ensures, length-take-le n a.keys.now (omega arith)) at c.close_in.ensures)
