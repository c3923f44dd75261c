use Rattle.std.proofs.Common.{ℕ, length, ◌∙◌, arith, rules, tests}
use Rattle.std.proofs.lemmas.Iterator.{YieldsList-from_range}
use Rattle.std.proofs.lemmas.Iterator.Search.{all_from_yields_List}
use Rattle.sums.specs.Lists.{at}
use Rattle.statement.specs.Tests.{order_test}
use Rattle.checking.proofs.Loops.{all_below}
use Rattle.checking.proofs.plants.in_order.Goals as goal

pub returns : goal.returns
returns c =
    let a = c.args in
    let n = length a.fleet.flags.now in
    let t = λ (i : ℕ). order_test a.dearest (at a.fleet.offers.now i) (at a.fleet.available.now i) (at a.schedule.now i) in
    all_from_yields_List t _ _ _ c.all.ensures.ran (YieldsList-from_range 0 n n (cc) (omega arith)) (λ x b q k. search (rules, tests))
    ∙ all_below n t
