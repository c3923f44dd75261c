use Rattle.std.proofs.Common.{sym, ◌∙◌}
use Rattle.capi.proofs.Told.{told_all}
use Rattle.capi.proofs.ToldBook.{entry_short, entry_known}
use Rattle.capi.proofs.day_book.naomhral_entry.Goals as goal

pub returns-then-summary-lt5 : goal.returns-then-summary-lt5
returns-then-summary-lt5 c =
    rw c.tell.ensures.0
    (told_all _ c.if-answer-lt6.false (entry_short _ _ _ c.if-summary-lt5.true) c.tell.ensures.1)

pub returns-in-Ok : goal.returns-in-Ok
returns-in-Ok c =
    let e = sym c.entry_of.ensures ∙ c.in-Ok.is in
    rw c.tell-in-Ok.ensures.0
    (told_all _ c.if-answer-lt6.false (entry_known _ _ _ _ c.if-summary-lt5.false e) c.tell-in-Ok.ensures.1)

pub returns-in-Err : goal.returns-in-Err
returns-in-Err c =
    let e = sym c.entry_of.ensures ∙ c.in-Err.is in
    rw c.tell-in-Err.ensures.0
    (told_all _ c.if-answer-lt6.false (entry_known _ _ _ _ c.if-summary-lt5.false e) c.tell-in-Err.ensures.1)
