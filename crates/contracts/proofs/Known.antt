-- A buyer's own rows are no more than a sheet may have, and of no kind below the first: what is counted over them is counted over the
-- sheet. Assumes nothing.
use Prim.Native.Nat.{ℕ, ◌≤◌, ◌<◌}
use native.Mathlib.Omega.{arith}
use native.Mathlib.Decide.{dec_lt}
use mathlib.Core.List.{List}
use mathlib.Core.Path.{◌≡◌, ◌∙◌}
use lib.Dec.{ltb, eqb}
use Rattle.sums.specs.Sums.{sum, pick}
use Rattle.sums.specs.Lists.{at}
use Rattle.sums.proofs.Sums.{sum_zero, sum_term}
use Rattle.sums.proofs.Cut.{sum_few}
use Rattle.sums.proofs.Picks.{pick_le, pick_lt, pick_ge, pick_zero}
use Rattle.limits.specs.Limits.{most_contracts}
use Rattle.deals.specs.Deals.{Deals, count, kind, fixed}
use Rattle.deals.specs.Hour.{Rows, own_of, own_count}
use Rattle.deals.proofs.Own.{count_own, own_rows}
use Rattle.contracts.specs.Keys.{row_count, Ready}

module _ (s : Rows) (ds : List ℕ) (ready : Ready s ds) (b : ℕ) where
  abbrev own : Deals
  own = own_of s b

  pub own_few : count own ≤ most_contracts
  unfolding own_count
  own_few =
      omega (
        arith,
        count_own s b,
        sum_few (row_count s) (λ j. pick (eqb (at s.buyers j) b) 1) (λ j l. pick_le (eqb (at s.buyers j) b) 1),
        ready.few,
      )

  -- no row of the sheet is of a lower kind, so none of them is
  pub own_known : (k : ℕ) → k < count own → fixed ≤ kind own k
  own_known k l = go (dec_lt (kind own k) fixed)
    where
      none : sum (count own) (λ i. pick (ltb (kind own i) fixed) 1) ≡ 0
      none =
          own_rows s b (λ kd x q t. pick (ltb kd fixed) 1)
          ∙ sum_zero (row_count s) (λ j. pick (eqb (at s.buyers j) b) (pick (ltb (at s.kinds j) fixed) 1))
          (λ j m. rw (pick_ge (at s.kinds j) fixed 1 (ready.least j m)) (pick_zero (eqb (at s.buyers j) b)))

      go : Dec (kind own k < fixed) → fixed ≤ kind own k
      go (yes z) = absurd (omega (
        arith,
        none,
        sum_term (count own) k (λ i. pick (ltb (kind own i) fixed) 1) l,
        pick_lt (kind own k) fixed 1 z,
      ))
      go (no z) = omega arith
