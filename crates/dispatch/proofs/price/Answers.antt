use Rattle.std.proofs.Common.{◌≡◌, min, length, arith}
use Rattle.merit.specs.Merit.{hour_price}
use Rattle.dispatch.specs.Dispatch.{price_of}
use Rattle.dispatch.proofs.price.Goals as goal

pub returns : goal.returns
unfolding price_of hour_price
returns c =
    let a = c.args in
    let e : c.loop-i.i ≡ min (min (length a.offers.now) (length a.flags.now)) (length a.scheduled.now) = omega arith in
    rw e at c.loop-i.invariant
