use Rattle.std.proofs.Common.{◌≡◌, ℕ, suc, ◌+◌, List, ◌∷◌, [], arith, rules, ap, ap₂, ◌∙◌, length, sum_by}
use Rattle.std.proofs.lemmas.List.Recursion.{is_sum_by}
use Rattle.sums.specs.Sums as own
use Rattle.sums.specs.Lists.{at, total}
use Rattle.sums.proofs.Sums.{sum_none, sum_step, sum_eq, sum_most}
use Rattle.sums.proofs.Cut.{sum_on}
use Rattle.share.proofs.total_of.Goals as goal

total_cons : (x : ℕ) (xs : List ℕ) → total (x ∷ xs) ≡ x + total xs
unfolding total
total_cons x xs =
    let n : length (x ∷ xs) ≡ 1 + length xs = omega arith in
    ap (λ m. own.sum m (at (x ∷ xs))) n ∙ sum_on 1 (length xs) (at (x ∷ xs))
    ∙ ap₂ ◌+◌ (omega (arith, sum_step 0 (at (x ∷ xs)), sum_none (at (x ∷ xs))))
    (sum_eq (length xs) (λ t. at (x ∷ xs) (1 + t)) (at xs) (λ i l. let e : 1 + i ≡ suc i = omega arith in ap (at (x ∷ xs)) e))

total_none : total [] ≡ 0
unfolding total
total_none = sum_none (at [])

pub returns : goal.returns
unfolding total
returns c =
    let ws = c.args.weights.now in
    let e : c.sum.result ≡ sum_by (λ w. w) ws = search rules in
    let f = is_sum_by total (λ w. w) total_none total_cons ws in (
      omega (arith, f),
      omega (
        arith,
        f,
        sum_most (length ws) 4294967295 (at ws) (λ i l. omega (arith, c.type_inv.weights i)),
      ),
    )
