-- What is left to judge gives what the whole section gives.
use Rattle.std.proofs.Common.{◌≡◌, ◌-◌}
use Rattle.refusals.specs.Refusals.{first_bad}
use Rattle.writing.specs.Lists.{given}
use Rattle.writing.specs.Judged.{row_listed}
use Rattle.writing.proofs.judge.section_listed.Given as goal

abbrev pub invariant-loop-i : goal.invariant-loop-i
invariant-loop-i l =
    let f = row_listed (given l.l) l.section in
    first_bad f 0 l.n ≡ first_bad f l.i (l.n - l.i)
