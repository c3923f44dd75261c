use Rattle.std.proofs.Common.{sym, ◌∙◌, arith}
use Rattle.page.specs.Page.{page_text}
use Rattle.page.proofs.Paged.{done_fits}
use Rattle.page.proofs.Most.{page_most}
use Rattle.capi.proofs.naomhral_page.Goals as goal

-- a page is short
pub overflow_cast-n : goal.overflow_cast-n
overflow_cast-n c =
    let a = c.args in
    let fits =
    done_fits (page_text a.sheet.now) a.out.now c.in-Ok.n
    (sym c.in-Ok.is ∙ c.page.ensures.answer) in
    omega (arith, fits.0, page_most a.sheet.now)
