-- A number that is read stands behind those before it.
use Rattle.std.proofs.Common.{◌<◌, length, arith, sym, subst}
use Rattle.std.proofs.lemmas.List.{take_more_set}
use Rattle.input.specs.Cases.{NumbersTaken}
use Rattle.input.proofs.Numbers.{none_taken, one_more}
use Rattle.input.proofs.cases.read_numbers.Goals as goal

pub loop-cell-init : goal.loop-cell-init
loop-cell-init g c = none_taken _

pub loop-cell-preserved : goal.loop-cell-preserved
loop-cell-preserved g c =
    let within : c.loop-cell.cell-index < length c.loop-cell.out = omega arith in
    subst (NumbersTaken _ _) (sym (take_more_set c.loop-cell.out c.loop-cell.cell-index c.in-Ok-Some.x within))
    (one_more _ _ _ _ _ c.loop-cell.invariant (rw c.in-Ok-Some.field-0-is at c.in-Ok-Some.ensures))
