use Rattle.std.proofs.Common.{◌≡◌, arith, sym, ◌∙◌}
use borrow.Author.Count.{below_more}
use Rattle.sums.proofs.First.{first_is, first_none}
use Rattle.balance.proofs.Found.{found_some, found_none}
use Rattle.balance.proofs.first_over.Goals as goal

pub loop-a-preserved : goal.loop-a-preserved
loop-a-preserved c = below_more _ _ c.loop-a.invariant (sym c.is_over.ensures ∙ c.if-is_over.false)

pub returns-then-is_over : goal.returns-then-is_over
returns-then-is_over c =
    rw (first_is c.args.n c.loop-a.a _ (omega arith) (sym c.is_over.ensures ∙ c.if-is_over.true) c.loop-a.invariant)
    (sym (found_some _ _ (omega arith)))

pub returns : goal.returns
returns c =
    let e : c.loop-a.a ≡ c.args.n = omega arith in
    rw (first_none c.args.n _ (rw e at c.loop-a.invariant)) (sym (found_none _ _ (omega arith)))
