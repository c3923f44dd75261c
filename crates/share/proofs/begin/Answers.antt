use Rattle.std.proofs.Common.{arith, refl}
use Rattle.sums.proofs.Lists.{zeros_at}
use Rattle.share.proofs.Lacks.{bracket_start}
use Rattle.share.proofs.begin.Goals as goal

pub floors-left-requires : goal.floors-left-requires
floors-left-requires c = (c.requires.0, c.requires.1, omega arith, record { none = λ k h. zeros_at 64 k; long = refl })

pub returns-clause-span : goal.returns-clause-span
returns-clause-span c =
    let p = c.args.p.now in
    let sh = c.requires.0 in
    let f = c.floors-left.ensures in
    let n = c.choose.ensures.of _ _ f.1 in
    record {
      small = omega (arith, n.small, sh.small);
      span = n.still _ (bracket_start p.amount p.weights.now _ _ _ f.0.left sh);
    }
