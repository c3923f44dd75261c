-- No sheet has more plants than an array has cells.
use Rattle.std.proofs.Common.{arith}
use Rattle.sheet.proofs.Accepted.{accepted_few}
use Rattle.ground.proofs.plants.columns.Goals as goal

pub fill-requires-clause-wide : goal.fill-requires-clause-wide
fill-requires-clause-wide c =
    let few = (accepted_few _ _ c.requires).plants in
    record {
      holders = omega (arith, few);
      flags = omega (arith, few);
      musts = omega (arith, few);
      offers = omega (arith, few);
      available = omega (arith, few);
    }
