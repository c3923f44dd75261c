use Rattle.std.proofs.Common.{arith, refl}
use Rattle.sums.proofs.Lists.{zeros_at}
use Rattle.share.proofs.narrow.Goals as goal

pub classes-requires : goal.classes-requires
classes-requires c = (c.requires.0, omega arith, record { none = λ k h. zeros_at 64 k; long = refl })

pub returns : goal.returns
returns c = c.choose.ensures.of _ _ c.classes.ensures
