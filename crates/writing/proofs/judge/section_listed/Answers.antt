use Rattle.std.proofs.Common.{sym, ap, ◌∙◌, arith}
use Rattle.std.proofs.lemmas.Grind.{common_steps}
use Rattle.refusals.specs.Refusals.{first_bad}
use Rattle.refusals.proofs.FirstBad.{none_bad, good_row, bad_row, from_start}
use Rattle.writing.specs.Lists.{given}
use Rattle.writing.specs.Judged.{section_listed}
use Rattle.writing.proofs.Good.{rows_small}
use Rattle.writing.proofs.judge.section_listed.Goals as goal

pub loop-i-init : goal.loop-i-init
loop-i-init c = from_start _ _

pub row_listed-requires : goal.row_listed-requires
row_listed-requires c =
    let l = rw c.requires.1 at c.loop-i-test.true in
    let n = given c.args.l in
    (l, omega (arith, rows_small n c.args.section c.requires.0, l))

pub returns-in_err-row_listed : goal.returns-in_err-row_listed
unfolding section_listed
returns-in_err-row_listed c = grind (arith, common_steps, bad_row)

pub loop-i-preserved : goal.loop-i-preserved
loop-i-preserved c = grind (arith, common_steps, good_row)

pub returns : goal.returns
unfolding section_listed
returns c =
    sym (c.loop-i.invariant ∙ none_bad _ _ _ (omega arith)) ∙ ap (first_bad _ 0) c.requires.1
