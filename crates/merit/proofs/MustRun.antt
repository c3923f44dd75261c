-- Plants that must run. What lies above the must-runs is filled by the price order, so the laws of the fill carry over: the ideal
-- dispatch is possible where the demand lies between the must-runs and the availabilities, it is in order of merit, and nothing
-- possible costs less; where the demand lies outside, no schedule is possible. Assumes nothing.
use Prim.Native.Nat.{ℕ, ◌+◌, ◌-◌, ◌≤◌, ◌<◌}
use native.Mathlib.Omega.{arith}
use native.Mathlib.Decide.{dec_lt}
use mathlib.Core.Logic.{◌↔◌, ◌⊎◌, inl, inr}
use mathlib.Core.Path.{◌≡◌, ◌∙◌}
use Rattle.sums.specs.Sums.{sum}
use Rattle.sums.proofs.Sums.{sum_eq, sum_le, sum_add}
use Rattle.merit.specs.Merit.{schedule, ideal_dispatch, Possible, cost, ByMerit}
use Rattle.merit.proofs.Schedule.{schedule_within, schedule_possible, schedule_merit}
use Rattle.merit.proofs.LeastCost.{merit_least}

module _ (p m a : ℕ → ℕ) (n d : ℕ) (most : (i : ℕ) → i < n → m i ≤ a i) where
  abbrev pub above : ℕ → ℕ
  above i = a i - m i

  -- what is filled above the must-runs
  abbrev filled : ℕ → ℕ
  filled i = schedule p above n (d - sum n m) i

  -- the availabilities are the must-runs and what lies above them
  pub sum_above : sum n a ≡ sum n m + sum n above
  sum_above = sum_eq n a (λ i. m i + above i) (λ i l. omega (arith, most i l)) ∙ sum_add n m above

  pub ideal_within : (i : ℕ) → i < n → ideal_dispatch p m a n d i ≤ a i
  unfolding ideal_dispatch
  ideal_within i l = omega (arith, most i l, schedule_within p above n (d - sum n m) i)

  pub ideal_possible : sum n m ≤ d → d ≤ sum n a → Possible m a n d (ideal_dispatch p m a n d)
  unfolding ideal_dispatch
  ideal_possible low high =
      record {
        enough = λ i l. omega arith;
        within = ideal_within;
        meets =
            omega (
              arith,
              sum_add n m filled,
              (schedule_possible p above n (d - sum n m) (omega (arith, sum_above))).meets,
            );
      }

  pub ideal_merit : ByMerit p m a n (ideal_dispatch p m a n d)
  unfolding ideal_dispatch
  ideal_merit =
      record {
        order =
            λ i j li lj hi hj. (schedule_merit p above n (d - sum n m)).order i j li lj (omega arith)
            (omega (arith, most j lj));
      }

  pub ideal_least : sum n m ≤ d → d ≤ sum n a
      → (q : ℕ → ℕ) → Possible m a n d q → cost p n (ideal_dispatch p m a n d) ≤ cost p n q
  ideal_least low high q pq =
      merit_least p m a n d (ideal_dispatch p m a n d) q (ideal_possible low high) ideal_merit pq

  -- the demand is above all availabilities or below all must-runs exactly where nothing is possible
  pub ideal_none : ((sum n a < d) ⊎ (d < sum n m)) ↔ ((q : ℕ → ℕ) → Possible m a n d q → ⊥)
  ideal_none = (outside, λ h. go h (dec_lt (sum n a) d) (dec_lt d (sum n m)))
    where
      outside : (sum n a < d) ⊎ (d < sum n m) → (q : ℕ → ℕ) → Possible m a n d q → ⊥
      outside (inl h) q pq = omega (arith, sum_le n q a pq.within, pq.meets)
      outside (inr h) q pq = omega (arith, sum_le n m q pq.enough, pq.meets)

      go : ((q : ℕ → ℕ) → Possible m a n d q → ⊥)
          → Dec (sum n a < d)
          → Dec (d < sum n m)
          → (sum n a < d) ⊎ (d < sum n m)
      go h (yes l) e = inl l
      go h (no l) (yes e) = inr e
      go h (no l) (no e) = absurd (h (ideal_dispatch p m a n d) (ideal_possible (omega arith) (omega arith)))
