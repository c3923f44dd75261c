-- What is left to read gives what the whole section gives.
use Rattle.std.proofs.Common.{◌≡◌, ◌-◌}
use Rattle.refusals.specs.Refusals.{first_bad}
use Rattle.sheet.specs.Sections.{told_in, section_verdict}
use Rattle.sheet.proofs.section_verdict.Given as goal

abbrev pub invariant-loop-i : goal.invariant-loop-i
invariant-loop-i l =
    section_verdict l.fn.s l.fn.c l.k ≡ first_bad (told_in l.agents l.section l.k) l.i (l.n - l.i)
