use Rattle.checking.specs.Parts.{RanTo}
use Rattle.checking.proofs.plants.run_all.Given as goal

abbrev pub invariant-loop-i : goal.invariant-loop-i
invariant-loop-i l =
    RanTo l.fleet.flags.now l.fleet.musts.now l.fleet.offers.now l.fleet.available.now l.schedule l.i l.v
