-- The summary's number tells whether the sheet is turned away; where it is not, the columns are what its lines are made of.
use Rattle.sheet.proofs.Accepted.{accepted_few}
use Rattle.columns.specs.Columns.{hour_of, sheet_verdict}
use Rattle.columns.proofs.Refusing.{none_fine}
use Rattle.settle.proofs.Judged.{summary_refused, summary_fine}
use Rattle.page.proofs.Paged.{refused_sheet, lined_sheet, price_small, lines_small}
use Rattle.page.proofs.accepted_page.Goals as goal

pub returns-then-s-ne0 : goal.returns-then-s-ne0
returns-then-s-ne0 c =
    let s = c.args.sheet.now in
    let v = summary_refused (sheet_verdict s) (hour_of s) _ c.settle_lists-s.ensures.answered c.if-s-ne0.true in
    rw (refused_sheet s _ v) c.refused_page.ensures

pub print_lines-requires : goal.print_lines-requires
print_lines-requires c =
    let s = c.args.sheet.now in
    let d = c.settle_lists-s.ensures in
    let fine = summary_fine (sheet_verdict s) (hour_of s) _ d.answered (none_fine s) c.if-s-ne0.false in
    record {
      n_le_most_agents = ((accepted_few _ _ c.requires).agents, price_small _ _ c.requires fine _ _ _ _ _ _ d);
      by_index = lines_small _ _ c.requires fine _ _ _ _ _ _ d;
    }

pub returns : goal.returns
returns c =
    let s = c.args.sheet.now in
    let d = c.settle_lists-s.ensures in
    let fine = summary_fine (sheet_verdict s) (hour_of s) _ d.answered (none_fine s) c.if-s-ne0.false in
    rw (lined_sheet _ _ c.requires fine _ _ _ _ _ _ d) c.print_lines.ensures
