use Rattle.std.proofs.Common.{sym, ◌∙◌}
use Rattle.page.proofs.Paged.{refused_sheet, unread_sheet}
use Rattle.page.proofs.page.Goals as goal

pub returns-in-Err : goal.returns-in-Err
returns-in-Err c =
    let bytes = c.args.sheet.now in
    rw (refused_sheet bytes _ (unread_sheet bytes c.in-Err.why (sym c.read.ensures ∙ c.in-Err.is))) c.refused_page.ensures
