use Rattle.std.proofs.Common.{arith, min, length, length-take-le}
use Rattle.crossing.proofs.Rows.{held_front}
use Rattle.crossing.proofs.left_below.Goals as goal

pub returns : goal.returns
returns c =
    let a = c.args in
    let n = min (length a.keys.now) (length a.values.now) in
    rw (c.min-n.ensures, length-take-le n a.keys.now (omega arith), held_front a.keys.now a.values.now n a.x) at c.left_of.ensures
