use Rattle.std.proofs.Common.{List, ℕ, ◌/◌, length, sym, ap, ◌∙◌, arith}
use Rattle.std.proofs.lemmas.Grind.{common_steps}
use Rattle.refusals.proofs.FirstBad.{none_bad, good_row, bad_row, from_start}
use Rattle.sheet.proofs.Sections.{section_within, part_count, section_told}
use Rattle.sheet.proofs.section_verdict.Goals as goal

-- the sections that the code cut out say what the sheet says
pub loop-i-init : goal.loop-i-init
loop-i-init c =
    sym (section_told _ _ c.requires.0.0 c.args.k)
    ∙ rw (← c.part_of-agents.ensures, ← c.part_of-section.ensures) (from_start _ _)

pub read_row-requires : goal.read_row-requires
read_row-requires c =
    let n =
    ap (λ (l : List ℕ). length l / 16) c.part_of-section.ensures
    ∙ part_count _ _ c.requires.0.0 c.args.k in
    (c.requires.1, omega (arith, n, section_within c.args.c c.args.k))

pub returns-in_err-read_row : goal.returns-in_err-read_row
returns-in_err-read_row c = grind (arith, common_steps, bad_row)

pub loop-i-preserved : goal.loop-i-preserved
loop-i-preserved c = grind (arith, common_steps, good_row)

pub returns : goal.returns
returns c = sym (c.loop-i.invariant ∙ none_bad _ _ _ (omega arith))
