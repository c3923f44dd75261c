-- What is left is judged over the rows that both lists have (`left_is`).
use Rattle.std.proofs.Common.{◌≡◌, ℕ, List, ◌≤◌, length, take, arith, ◌∙◌, ap, length-take-le, get_or-take}
use Rattle.sums.specs.Sums.{sum}
use Rattle.sums.specs.Lists.{at}
use Rattle.sums.proofs.Sums.{sum_eq}
use Rattle.dispatch.specs.Dispatch.{plant_count}
use Rattle.dispatch.proofs.Dispatched.{verdict_uncovered, verdict_short, verdict_fine, dispatched_none, dispatched_all}
use Rattle.dispatch.proofs.dispatch.Goals as goal

left_is : (xs : List ℕ) (n : ℕ) → n ≤ length xs → sum (length (take n xs)) (at (take n xs)) ≡ sum n (at xs)
left_is xs n h =
    ap (λ m. sum m (at (take n xs))) (length-take-le n xs h)
    ∙ sum_eq n (at (take n xs)) (at xs) (λ i l. get_or-take n xs i 0 l)

pub returns-then-left_over-gt0 : goal.returns-then-left_over-gt0
returns-then-left_over-gt0 c =
    let a = c.args in
    let n = plant_count a.offers.now a.available.now in
    let e = rw c.min-n.ensures at c.left_over.ensures in
    dispatched_none _ _ _ _ _ _ c.refuse.ensures
    (verdict_uncovered a.offers.now a.available.now a.demand a.out.now (omega (arith, left_is a.available.now n (omega arith))))

pub returns-then-out-n : goal.returns-then-out-n
returns-then-out-n c =
    let a = c.args in
    let n = plant_count a.offers.now a.available.now in
    let e = rw c.min-n.ensures at c.left_over.ensures in
    dispatched_none _ _ _ _ _ _ c.refuse-then-out-n.ensures
    (verdict_short a.offers.now a.available.now a.demand a.out.now (omega (arith, left_is a.available.now n (omega arith)))
    (omega arith))

pub returns : goal.returns
returns c =
    let a = c.args in
    let n = plant_count a.offers.now a.available.now in
    let e = rw c.min-n.ensures at c.left_over.ensures in
    dispatched_all _ _ _ _ _
    (verdict_fine a.offers.now a.available.now a.demand a.out.now (omega (arith, left_is a.available.now n (omega arith)))
    (omega arith)) c.fill.ensures
