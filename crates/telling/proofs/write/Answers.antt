use Rattle.std.proofs.Common.{sym, ◌∙◌}
use Rattle.hour.specs.Answer.{lent}
use Rattle.telling.specs.Text.{statement_text}
use Rattle.telling.proofs.Serving.{enough, badly_served, given}
use Rattle.telling.proofs.write.Goals as goal

pub returns-then-not-lists_serve : goal.returns-then-not-lists_serve
returns-then-not-lists_serve c =
    let a = c.args in
    badly_served a.c (lent a.figures.now a.money.now a.schedule.now a.amounts.now)
    (sym c.lists_serve.ensures ∙ c.if-not-lists_serve.true) _ _

pub put_statement-from-requires-clause-serve : goal.put_statement-from-requires-clause-serve
put_statement-from-requires-clause-serve c = enough _ _ _ _ _ (sym c.lists_serve.ensures ∙ c.if-not-lists_serve.false)

pub returns : goal.returns
returns c =
    let a = c.args in
    let l = lent a.figures.now a.money.now a.schedule.now a.amounts.now in
    given a.c l (sym c.lists_serve.ensures ∙ c.if-not-lists_serve.false) _ (statement_text a.c a.price l) a.out.now _ _
    c.put_statement-from.ensures c.give.ensures
