-- The last plant needed. What is ahead of a plant that is partly scheduled, together with its own spare energy, passes the demand: so
-- who stands behind it gets no more than its must-run, who stands ahead of it gets all, and there is no second one. Assumes nothing.
use Prim.Native.Nat.{ℕ, ◌+◌, ◌-◌, ◌≤◌, ◌<◌, min}
use native.Mathlib.Omega.{arith}
use native.Mathlib.Decide.{dec_lt}
use mathlib.Core.Logic.{◌⊎◌, inl, inr}
use mathlib.Core.Path.{◌≡◌, refl, ap}
use lib.Dec.{eqb}
use Rattle.sums.specs.Sums.{sum, pick, keyed}
use Rattle.sums.specs.Lists.{at}
use Rattle.sums.proofs.Sums.{sum_front}
use Rattle.sums.proofs.Picks.{pick_eq}
use Rattle.merit.specs.Merit.{ahead, schedule, ideal_dispatch}
use Rattle.crossing.specs.Crossing.{held_below}
use Rattle.merit.proofs.Levels.{ahead_is, ahead_dearer}
use Rattle.merit.proofs.MustRun.{ideal_within}
use Rattle.hour.specs.Sheet.{Sheet, plants}
use Rattle.hour.specs.Sound.{Sound}
use Rattle.hour.specs.Lines.{scheduled}
use Rattle.reasons.specs.Reasons.{StandsAhead}

-- at one price x the rows before j hold those before i, and i's own
front : (p a : ℕ → ℕ) (i j x : ℕ) → i < j → p i ≡ x → keyed p a i x + a i ≤ keyed p a j x
unfolding keyed
front p a i j x l q = omega (arith, sum_front j i (λ k. pick (eqb (p k) x) (a k)) l, pick_eq (p i) x (a i) q)

-- what is ahead of plant i, and its own, is ahead of whoever stands behind it
ahead_front : (p a : ℕ → ℕ) (n i j : ℕ)
    → i < n
    → j < n
    → (p i < p j) ⊎ ((p i ≡ p j) × (i < j))
    → ahead p a n i + a i ≤ ahead p a n j
ahead_front p a n i j li lj (inl l) = ahead_dearer p a n j i lj li l
ahead_front p a n i j li lj (inr e) =
    omega (
      arith,
      ahead_is p a n i (omega arith),
      ahead_is p a n j (omega arith),
      ap (λ (x : ℕ). held_below p a n x + keyed p a j x) e.0,
      front p a i j (p i) e.1 refl,
    )

-- of two, the one ahead with u to give and the other with v, of the demand d
none_behind : (u v d x y : ℕ) → x + u ≤ y → min u (d - x) < u → min v (d - y) ≡ 0
none_behind u v d x y o h = omega arith

all_ahead : (u v d x y : ℕ) → x + u ≤ y → 0 < min v (d - y) → min u (d - x) ≡ u
all_ahead u v d x y o h = omega arith

module _ (p m a : ℕ → ℕ) (n d i j : ℕ) (li : i < n) (lj : j < n) (o : (p i < p j) ⊎ ((p i ≡ p j) × (i < j))) where
  abbrev spare : ℕ → ℕ
  spare k = a k - m k

  -- what the price order gives above the must-runs
  abbrev given : ℕ → ℕ
  given k = schedule p spare n (d - sum n m) k

  fill_behind : given i < spare i → given j ≡ 0
  unfolding schedule
  fill_behind = none_behind (spare i) (spare j) (d - sum n m) (ahead p spare n i) (ahead p spare n j) (ahead_front p spare n i j li lj o)

  fill_ahead : 0 < given j → given i ≡ spare i
  unfolding schedule
  fill_ahead = all_ahead (spare i) (spare j) (d - sum n m) (ahead p spare n i) (ahead p spare n j) (ahead_front p spare n i j li lj o)

  -- where i has energy left, j gets no more than its must-run
  ideal_behind : ideal_dispatch p m a n d i < a i → ideal_dispatch p m a n d j ≡ m j
  unfolding ideal_dispatch
  ideal_behind h = let z : given j ≡ 0 = fill_behind (omega arith) in omega (arith, z)

  -- where j gets more than its must-run, i gets all
  ideal_ahead : m i ≤ a i → m j < ideal_dispatch p m a n d j → ideal_dispatch p m a n d i ≡ a i
  unfolding ideal_dispatch
  ideal_ahead k h = let z : given i ≡ spare i = fill_ahead (omega arith) in omega (arith, z)

least : (p m a : ℕ → ℕ) (n d i : ℕ) → m i ≤ ideal_dispatch p m a n d i
unfolding ideal_dispatch
least p m a n d i = omega arith

-- ---- of a sheet
module _ (s : Sheet) (ok : Sound s) where
  abbrev p : ℕ → ℕ
  p = at s.offers

  abbrev m : ℕ → ℕ
  m = at s.must_run

  abbrev a : ℕ → ℕ
  a = at s.available

  -- a schedule lies between the must-run and the availability
  pub scheduled_least : (i : ℕ) → m i ≤ scheduled s i
  unfolding scheduled
  scheduled_least i = least p m a (plants s) _ i

  pub scheduled_most : (i : ℕ) → i < plants s → scheduled s i ≤ a i
  unfolding scheduled
  scheduled_most i l = ideal_within p m a (plants s) _ (λ j k. (ok.plant j k).must_run) i l

  -- BEHIND A PLANT WITH ENERGY LEFT NOBODY GETS MORE THAN ITS MUST-RUN
  pub behind : (i j : ℕ) → i < plants s → j < plants s → StandsAhead s i j → scheduled s i < a i → scheduled s j ≡ m j
  unfolding scheduled
  behind i j li lj o h = ideal_behind p m a (plants s) _ i j li lj o h

  -- AHEAD OF A PLANT THAT GETS MORE THAN ITS MUST-RUN EVERYBODY GETS ALL
  pub in_front : (i j : ℕ) → i < plants s → j < plants s → StandsAhead s i j → m j < scheduled s j → scheduled s i ≡ a i
  unfolding scheduled
  in_front i j li lj o h = ideal_ahead p m a (plants s) _ i j li lj o (ok.plant i li).must_run h

  -- NO TWO PLANTS ARE ABOVE THEIR MUST-RUNS WITH ENERGY LEFT
  pub one_between : (i j : ℕ) → i < plants s → j < plants s
      → m i < scheduled s i → scheduled s i < a i → m j < scheduled s j → scheduled s j < a j
      → i ≡ j
  one_between i j li lj x y z w = go (dec_lt (p i) (p j)) (dec_lt (p j) (p i)) (dec_lt i j) (dec_lt j i)
    where
      go : Dec (p i < p j) → Dec (p j < p i) → Dec (i < j) → Dec (j < i) → i ≡ j
      go (yes h) k u v = absurd (omega (arith, behind i j li lj (inl h) y))
      go (no h) (yes k) u v = absurd (omega (arith, behind j i lj li (inl k) w))
      go (no h) (no k) (yes u) v = absurd (omega (arith, behind i j li lj (inr (omega arith, u)) y))
      go (no h) (no k) (no u) (yes v) = absurd (omega (arith, behind j i lj li (inr (omega arith, v)) w))
      go (no h) (no k) (no u) (no v) = omega arith
