use Rattle.std.proofs.Common.{◌≡◌, arith, length-take-le, get_or-take, sym}
use Rattle.sums.specs.Lists.{at}
use Rattle.sums.proofs.Sums.{sum_none, sum_step}
use Rattle.share.proofs.class_at.Goals as goal

pub slice_bounds-held-items-end : goal.slice_bounds-held-items-end
slice_bounds-held-items-end c = sym (length-take-le 63 c.args.counts.now (omega arith))

pub loop-class-init : goal.loop-class-init
loop-class-init c = omega (arith, sum_none (at c.args.counts.now))

pub offset_bounds-held-items-class : goal.offset_bounds-held-items-class
offset_bounds-held-items-class c = omega (arith, length-take-le 63 c.args.counts.now (omega arith))

pub returns-then-rest-held : goal.returns-then-rest-held
returns-then-rest-held c =
    let n = length-take-le 63 c.args.counts.now (omega arith) in
    let e = get_or-take 63 c.args.counts.now c.loop-class.class 0 (omega arith) in
    record { most = omega arith; passed = c.loop-class.invariant; ends = λ h. omega arith }

pub loop-class-preserved : goal.loop-class-preserved
loop-class-preserved c =
    let n = length-take-le 63 c.args.counts.now (omega arith) in
    let e = get_or-take 63 c.args.counts.now c.loop-class.class 0 (omega arith) in
    omega (arith, sum_step c.loop-class.class (at c.args.counts.now), c.loop-class.invariant)

pub returns : goal.returns
returns c =
    let n = length-take-le 63 c.args.counts.now (omega arith) in
    let e : c.loop-class.class ≡ 63 = omega arith in
    record { most = omega arith; passed = rw e at c.loop-class.invariant; ends = λ h. absurd (omega arith) }
