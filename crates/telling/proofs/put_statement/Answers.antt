-- Each part is put in front of the last, and there is room for it: the scratch has 27 bytes more than the rows before the price take.
use Rattle.std.proofs.Common.{[], ◌∷◌, length, ap, ◌∙◌, arith, le_refl}
use Rattle.std.proofs.lemmas.List.{length-take-le}
use lib.Seq.{drop-length}
use Rattle.printing.specs.Text.{lines_to}
use Rattle.text.specs.Lines.{plant_word, contract_word, price_word}
use Rattle.text.specs.Written.{row_text}
use Rattle.telling.specs.Text.{agent_line, plant_line, contract_line, statement_text}
use Rattle.telling.specs.Lists.{given}
use Rattle.telling.proofs.Same.{agents_lent, rows_lent}
use Rattle.telling.proofs.put_statement.Goals as goal

pub returns : goal.returns
unfolding statement_text
returns c =
    let a = c.args in
    let n = a.c in
    let l = given a.l in
    let s = c.requires.serve in
    let whole = c.requires.room in
    let kk = c.put_list-i.auto.s in
    let kp = c.put_list-j.auto.s in
    let kg = c.put_agents-k.auto.s in
    let nk = length-take-le n.contracts a.l.amounts.now s.amounts in
    let np = length-take-le n.plants a.l.schedule.now s.schedule in
    let na = length-take-le n.agents a.l.money.now s.money in
    let x = c.put_list-i.ensures.put (omega (arith, whole, s.contracts, nk)) (le_refl (length a.s.now)) in
    let y = c.put_list-j.ensures.put (omega (arith, whole, s.contracts, s.plants, nk, np, x.low)) (omega (arith, x.high, kk)) in
    let z = c.put_agents-k.ensures.put (omega (arith, whole, s.contracts, s.plants, s.agents, nk, np, na, x.low, y.low))
    (omega (arith, x.high, y.high, kk, kp)) in
    let v = c.put_row.ensures.put (omega (arith, whole, s.contracts, s.plants, s.agents, nk, np, na, x.low, y.low, z.low))
    (omega (arith, x.high, y.high, z.high, kk, kp, kg)) in
    let contracts = x.text_is ∙ rows_lent contract_word a.l.amounts.now n.contracts _ s.amounts
    ∙ ap (lines_to (contract_line l) n.contracts) (drop-length a.s.now) in
    let plants = y.text_is ∙ rows_lent plant_word a.l.schedule.now n.plants _ s.schedule
    ∙ ap (lines_to (plant_line l) n.plants) contracts in
    let agents = z.text_is ∙ agents_lent a.l.figures.now a.l.money.now a.l.schedule.now a.l.amounts.now n.agents _ s.money
    ∙ ap (lines_to (agent_line l) n.agents) plants in
    v.text_is ∙ ap (row_text price_word (a.price ∷ [])) agents
