use Rattle.std.proofs.Common.{length, ◌∙◌, arith, rules, tests}
use Rattle.std.proofs.lemmas.Iterator.{YieldsList-from_range}
use Rattle.std.proofs.lemmas.Iterator.Search.{all_from_yields_List}
use Rattle.checking.specs.Parts.{line_at}
use Rattle.checking.proofs.Loops.{all_below}
use Rattle.checking.proofs.agents.good.Goals as goal

pub returns : goal.returns
returns c =
    let a = c.args in
    let n = length a.kinds.now in
    let t = line_at a.kinds.now a.own.now a.imports.now a.held.now a.price a.figures.now a.money.now in
    all_from_yields_List t _ _ _ c.all.ensures.ran (YieldsList-from_range 0 n n (cc) (omega arith)) (λ x b q k. search (rules, tests))
    ∙ all_below n t
