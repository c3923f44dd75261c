use Rattle.refusals.specs.Refusals.{refusal}
use Rattle.telling.proofs.Telling.{told_refusal, turned_away_lem, fresh, fresh_room, told_statement}
use Rattle.telling.proofs.tell_accepted.Goals as goal

pub returns-then-r-ne0 : goal.returns-then-r-ne0
returns-then-r-ne0 c =
    let a = c.args in
    let r = c.settle_read-r in
    told_refusal a.sheet.now a.out.now (refusal r.result.number r.result.place)
    (turned_away_lem a.sheet.now r.result fresh _ (fresh_room a.sheet.now a.c c.requires) r.ensures c.if-r-ne0.true)

pub returns : goal.returns
returns c =
    let a = c.args in
    let r = c.settle_read-r in
    told_statement a.sheet.now a.c c.requires r.result _ r.ensures c.if-r-ne0.false a.out.now _ _ c.write.ensures
