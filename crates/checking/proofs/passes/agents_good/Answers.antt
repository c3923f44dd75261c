use Rattle.std.proofs.Common.{length, ◌∙◌, arith, rules, tests}
use Rattle.std.proofs.lemmas.Iterator.{YieldsList-from_range}
use Rattle.std.proofs.lemmas.Iterator.Search.{all_from_yields_List}
use Rattle.checking.specs.Accounts.{retailer_at}
use Rattle.checking.proofs.Loops.{all_below}
use Rattle.checking.proofs.passes.agents_good.Goals as goal

pub returns : goal.returns
returns c =
    let a = c.args in
    let n = length a.demands.now in
    let t = retailer_at a.seen.now a.sums.now a.fine.now a.demands.now in
    all_from_yields_List t _ _ _ c.all.ensures.ran (YieldsList-from_range 0 n n (cc) (omega arith)) (λ x b q k. search (rules, tests))
    ∙ all_below n t
