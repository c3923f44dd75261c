use Rattle.std.proofs.Common.{◌≡◌, ltb, arith, length, ap₂}
use Rattle.std.proofs.lemmas.Slice.Zip.{zip_turn, zip_end}
use Rattle.std.proofs.lemmas.List.{length_push}
use Rattle.sums.specs.Sums.{pick}
use Rattle.sums.specs.Lists.{at}
use Rattle.crossing.proofs.Rows.{held_step}
use Rattle.crossing.proofs.held_below.Goals as goal

pub loop-y-preserved : goal.loop-y-preserved
loop-y-preserved c =
    let t = zip_turn c.args.keys.now c.args.values.now c.loop-y.yielded
    c.into_iter-y-iterator.result c.loop-y.y-iterator c.next.new.self _ (cc) (cc) c.loop-y.yielded_by _ c.in-Some.is c.next.ensures.steps in
    let e = ap₂ (λ y v. pick (ltb y c.args.x) v) (t.2 0) (t.3 0) in
    let more = held_step (at c.args.keys.now) (at c.args.values.now) (length c.loop-y.yielded) c.args.x in
    simp length_push (record { sum = omega arith; small = omega arith })

pub returns : goal.returns
returns c =
    let n = zip_end c.args.keys.now c.args.values.now c.loop-y.yielded
    c.into_iter-y-iterator.result c.loop-y.y-iterator c.next.new.self _ (cc) (cc) c.loop-y.yielded_by c.in-None.is c.next.ensures.steps in
    let e : length c.loop-y.yielded ≡ length c.args.keys.now = omega arith in
    rw e at c.loop-y.invariant.sum
