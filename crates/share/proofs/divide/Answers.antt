-- The guess is not above the floor, so the rest is what it leaves of the product; where that is below the total the two are floor and
-- remainder. Else both are found by division.
use Rattle.std.proofs.Common.{arith}
use Rattle.share.proofs.Rates.{guess_below, floor_is}
use Rattle.share.proofs.divide.Goals as goal

pub overflow_sub-rest : goal.overflow_sub-rest
overflow_sub-rest c =
    let p = c.args.p.now in
    omega (arith, guess_below p.amount c.args.weight p.total _ c.product-whole.ensures c.args.rate _ c.requires.2 c.rated-guess.ensures)

pub returns-then-rest-p : goal.returns-then-rest-p
returns-then-rest-p c =
    let p = c.args.p.now in
    let e = c.product-whole.ensures in
    floor_is p.amount c.args.weight p.total _ e _
    (guess_below p.amount c.args.weight p.total _ e c.args.rate _ c.requires.2 c.rated-guess.ensures) c.if-rest-p.true
