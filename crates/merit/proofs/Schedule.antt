-- The schedule is possible where the availabilities cover the demand, and stands in order of merit. No order of the plants is
-- made: that it meets the demand is an induction on the price. Assumes nothing.
use Prim.Native.Nat.{ℕ, zero, suc, ◌+◌, ◌-◌, ◌≤◌, ◌<◌, min, zero-le}
use native.Mathlib.Nat.{min-le_left}
use native.Mathlib.Omega.{arith}
use native.Mathlib.Decide.{dec_lt, ℕ_discrete}
use mathlib.Core.Path.{◌≡◌, ap, ap₂, ◌∙◌, sym}
use lib.Dec.{ltb, eqb}
use Rattle.sums.specs.Sums.{sum, pick, keyed}
use Rattle.sums.proofs.Sums.{sum_eq, sum_add, sum_zero, sum_term}
use Rattle.sums.proofs.Picks.{pick_lt, pick_ge, pick_eq, pick_ne, pick_suc, pick_at}
use Rattle.crossing.specs.Crossing.{held_below, Crossing, taken}
use Rattle.crossing.proofs.Crossing.{below_zero, below_suc, taken_is}
use Rattle.merit.specs.Merit.{ahead, schedule, Possible, none, ByMerit}
use Rattle.merit.proofs.Levels.{ahead_standing, ahead_is, ahead_dearer}

module _ (p a : ℕ → ℕ) (n d : ℕ) where
  pub schedule_within : (i : ℕ) → schedule p a n d i ≤ a i
  unfolding schedule
  schedule_within i = min-le_left _ _

  -- plants of one price x, filled in row order on top of g
  fill_level : (g x k : ℕ)
      → sum k (λ i. pick (eqb (p i) x) (min (a i) (d - (g + keyed p a i x)))) + min d g ≡ min d (g + keyed p a k x)
  unfolding sum keyed
  fill_level g x zero = omega arith
  fill_level g x (suc k) = go (ℕ_discrete (p k) x) (fill_level g x k)
    where
      L : ℕ
      L = sum k (λ j. pick (eqb (p j) x) (a j))

      S : ℕ
      S = sum k (λ i. pick (eqb (p i) x) (min (a i) (d - (g + keyed p a i x))))

      go : Dec (p k ≡ x)
          → S + min d g ≡ min d (g + L)
          → S + pick (eqb (p k) x) (min (a k) (d - (g + L))) + min d g ≡ min d (g + (L + pick (eqb (p k) x) (a k)))
      go (yes e) h = rw (pick_eq (p k) x (a k) e, pick_eq (p k) x (min (a k) (d - (g + L))) e) (omega arith)
      go (no e) h = rw (pick_ne (p k) x (a k) e, pick_ne (p k) x (min (a k) (d - (g + L))) e) (omega arith)

  schedule_at : (x i : ℕ)
      → i < n
      → pick (eqb (p i) x) (schedule p a n d i)
      ≡ pick (eqb (p i) x) (min (a i) (d - (held_below p a n x + keyed p a i x)))
  unfolding schedule
  schedule_at x i l =
      rw (ahead_is p a n i (omega arith)) (pick_at (p i) x (λ y. min (a i) (d - (held_below p a n y + keyed p a i y))))

  -- what the plants below the price x deliver
  sold_below : (x : ℕ) → sum n (λ i. pick (ltb (p i) x) (schedule p a n d i)) ≡ min d (held_below p a n x)
  sold_below zero =
      sum_zero n _ (λ i l. pick_ge (p i) 0 (schedule p a n d i) zero-le)
      ∙ omega (arith, below_zero p a n)
  sold_below (suc x) =
      omega (
        arith,
        sum_eq n (λ i. pick (ltb (p i) (suc x)) (schedule p a n d i))
            (λ i. pick (ltb (p i) x) (schedule p a n d i) + pick (eqb (p i) x) (schedule p a n d i))
            (λ i l. pick_suc (p i) x (schedule p a n d i)),
        sum_add n (λ i. pick (ltb (p i) x) (schedule p a n d i)) (λ i. pick (eqb (p i) x) (schedule p a n d i)),
        sum_eq n (λ i. pick (eqb (p i) x) (schedule p a n d i))
            (λ i. pick (eqb (p i) x) (min (a i) (d - (held_below p a n x + keyed p a i x)))) (λ i l. schedule_at x i l),
        sold_below x,
        fill_level (held_below p a n x) x n,
        below_suc p a n x,
      )

  -- below a price above all offers stands every plant
  all_below : (f : ℕ → ℕ) → sum n (λ i. pick (ltb (p i) (suc (sum n p))) (f i)) ≡ sum n f
  all_below f = sum_eq n _ _ (λ i l. pick_lt (p i) (suc (sum n p)) (f i) (omega (arith, sum_term n i p l)))

  pub schedule_sum : sum n (schedule p a n d) ≡ min d (sum n a)
  unfolding held_below
  schedule_sum = omega (arith, all_below (schedule p a n d), all_below a, sold_below (suc (sum n p)))

  pub schedule_possible : d ≤ sum n a → Possible none a n d (schedule p a n d)
  schedule_possible h =
      record {
        enough = λ i l. zero-le;
        within = λ i l. omega (arith, schedule_within i);
        meets = omega (arith, schedule_sum);
      }

  pub schedule_merit : ByMerit p none a n (schedule p a n d)
  unfolding schedule
  schedule_merit = record { order = λ i j li lj hi hj. go i j li lj hi hj (dec_lt (p j) (p i)) }
    where
      go : (i j : ℕ)
          → i < n
          → j < n
          → 0 < min (a i) (d - ahead p a n i)
          → min (a j) (d - ahead p a n j) < a j
          → Dec (p j < p i)
          → p i ≤ p j
      go i j li lj hi hj (yes m) = absurd (omega (arith, ahead_dearer p a n i j li lj m))
      go i j li lj hi hj (no m) = omega arith

-- the schedule rests on nothing but the offers and availabilities of the first n plants
pub schedule_eq : (p p' a a' : ℕ → ℕ) (n d i : ℕ)
    → i < n
    → ((j : ℕ) → j < n → p j ≡ p' j)
    → ((j : ℕ) → j < n → a j ≡ a' j)
    → schedule p a n d i ≡ schedule p' a' n d i
unfolding schedule ahead
schedule_eq p p' a a' n d i l g h =
    ap₂ (λ (u v : ℕ). min u (d - v)) (h i l)
    (sum_eq n _ _ (λ j k. rw (g j k, g i l, h j k)))

-- plant i delivers what it has below the price m at which the demand crosses the offers, at m what is left when its row is reached
pub schedule_taken : (p a : ℕ → ℕ) (n d m : ℕ)
    → Crossing p a n d m
    → (i left : ℕ)
    → i < n
    → left ≡ d - held_below p a n m - keyed p a i m
    → taken (p i) m (a i) left ≡ schedule p a n d i
unfolding schedule
schedule_taken p a n d m r i left l e =
    taken_is p a n d m r i left l e ∙ ap (λ (x : ℕ). min (a i) (d - x)) (sym (ahead_standing p a n i))
