use Rattle.std.proofs.Common.{sym, ◌∙◌}
use Rattle.hour.specs.Answer.{lent}
use Rattle.settle.specs.Settled.{verdict_of}
use Rattle.settle.proofs.Judged.{refused_read, turned_away_lem}
use Rattle.settle.proofs.settle.Goals as goal

pub returns-in-Err : goal.returns-in-Err
returns-in-Err c =
    let a = c.args in
    let l = lent a.figures.now a.money.now a.schedule.now a.amounts.now in
    rw c.turned_away.ensures
    (turned_away_lem (verdict_of a.bytes.now l) _ (refused_read a.bytes.now l _ (sym c.read.ensures ∙ c.in-Err.is)) _ _)
