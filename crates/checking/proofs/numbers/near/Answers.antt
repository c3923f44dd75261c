use Rattle.std.proofs.Common.{sym}
use Rattle.checking.proofs.Nearby.{near_nothing, near_parts}
use Rattle.checking.proofs.numbers.near.Goals as goal

pub returns-then-t-eq0 : goal.returns-then-t-eq0
returns-then-t-eq0 c = sym (near_nothing _ _ _ _ c.if-t-eq0.true)

pub returns : goal.returns
returns c =
    let a = c.args in
    near_parts a.a a.w a.t a.x _ _ _ c.if-t-eq0.false (cc) (cc) (cc)
