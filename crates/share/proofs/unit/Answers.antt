use Rattle.std.proofs.Common.{arith}
use lib.Dec.{ltb, eqb}
use Rattle.share.proofs.Lacks.{byte_is, unit_is}
use Rattle.share.proofs.unit.Goals as goal

pub returns : goal.returns
returns c =
    let a = c.args in
    omega (arith, byte_is (ltb a.k a.x), byte_is (eqb a.k a.x), unit_is a.k a.x a.left)
