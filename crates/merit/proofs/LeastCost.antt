-- Duty 3. An order of merit costs least, whichever way it was found; the schedule is one; and the availabilities sum to less
-- than the demand exactly where no schedule is possible. Assumes nothing.
use Prim.Native.Nat.{ℕ, ◌+◌, ◌*◌, ◌≤◌, ◌<◌}
use native.Mathlib.Nat.{le_dest}
use native.Mathlib.Omega.{arith}
use native.Mathlib.Decide.{dec_lt}
use mathlib.Core.Logic.{◌↔◌}
use mathlib.Core.Path.{◌≡◌, ap, ◌∙◌, sym}
use lib.Dec.{ltb}
use Rattle.sums.specs.Sums.{sum, peak, pick}
use Rattle.sums.proofs.Sums.{sum_eq, sum_le, sum_add, sum_mul, peak_ge, peak_hit}
use Rattle.sums.proofs.Picks.{pick_lt, pick_ge}
use Rattle.merit.specs.Merit.{schedule, Possible, none, cost, ByMerit}
use Rattle.merit.proofs.Schedule.{schedule_possible, schedule_merit}

-- of two numbers and two factors, the products in like order are the greater sum
rearrange : (x y u v : ℕ) → x ≤ y → u ≤ v → x * v + y * u ≤ x * u + y * v
rearrange x y u v h g =
    let (k, ek) = le_dest h in
    let (m, em) = le_dest g in
    rw (← ek, ← em) (omega arith)

-- s is in order of merit and q is any other: each plant is weighed against the dearest plant that s has above its least
module _ (p least a : ℕ → ℕ) (n d : ℕ) (s q : ℕ → ℕ) (ps : Possible least a n d s) (merit : ByMerit p least a n s)
    (pq : Possible least a n d q) where
  marginal : ℕ
  marginal = peak n (λ i. pick (ltb (least i) (s i)) (p i))

  dear : (i : ℕ) → i < n → least i < s i → p i ≤ marginal
  unfolding marginal
  dear i l h = omega (arith, peak_ge n i (λ i. pick (ltb (least i) (s i)) (p i)) l, pick_lt (least i) (s i) (p i) h)

  full : (j : ℕ) → j < n → p j < marginal → a j ≤ s j
  unfolding marginal
  full j l h =
      let (k, lk, ek) = peak_hit n (λ i. pick (ltb (least i) (s i)) (p i)) (omega arith) in
      go k lk ek (dec_lt (least k) (s k)) (dec_lt (s j) (a j))
    where
      go : (k : ℕ) → k < n → pick (ltb (least k) (s k)) (p k) ≡ marginal → Dec (least k < s k) → Dec (s j < a j) → a j ≤ s j
      go k lk ek (yes m) (yes r) = absurd (omega (arith, pick_lt (least k) (s k) (p k) m, merit.order k j lk l m r))
      go k lk ek (yes m) (no r) = omega arith
      go k lk ek (no m) r = absurd (omega (arith, pick_ge (least k) (s k) (p k) (omega arith)))

  -- the exchange at one plant
  swap : (i : ℕ) → i < n → p i * s i + marginal * q i ≤ p i * q i + marginal * s i
  swap i l = go (dec_lt (p i) marginal) (dec_lt (least i) (s i))
    where
      go : Dec (p i < marginal) → Dec (least i < s i) → p i * s i + marginal * q i ≤ p i * q i + marginal * s i
      go (yes m) z = rearrange (p i) marginal (q i) (s i) (omega arith) (omega (arith, full i l m, pq.within i l))
      go (no m) (yes z) = let e : p i ≡ marginal = omega (arith, dear i l z) in rw e (omega arith)
      go (no m) (no z) = omega (arith, rearrange marginal (p i) (s i) (q i) (omega arith) (omega (arith, pq.enough i l)))

  pub merit_least : cost p n s ≤ cost p n q
  unfolding cost
  merit_least =
      omega (
        arith,
        sum_le n (λ i. p i * s i + marginal * q i) (λ i. p i * q i + marginal * s i) swap,
        sum_add n (λ i. p i * s i) (λ i. marginal * q i),
        sum_add n (λ i. p i * q i) (λ i. marginal * s i),
        sum_mul n marginal q,
        sum_mul n marginal s,
        ap (λ (z : ℕ). marginal * z) (ps.meets ∙ sym pq.meets),
      )

module _ (p a : ℕ → ℕ) (n d : ℕ) where
  -- where the availabilities cover the demand, the schedule is possible, and nothing possible costs less
  pub schedule_least : d ≤ sum n a
      → Possible none a n d (schedule p a n d) × ((q : ℕ → ℕ) → Possible none a n d q → cost p n (schedule p a n d) ≤ cost p n q)
  schedule_least h =
      let r : Possible none a n d (schedule p a n d) = schedule_possible p a n d h in
      (r, λ q pq. merit_least p none a n d (schedule p a n d) q r (schedule_merit p a n d) pq)

-- they sum to less than the demand exactly where nothing is possible
pub none_possible : (a : ℕ → ℕ) (n d : ℕ) → (sum n a < d) ↔ ((q : ℕ → ℕ) → Possible none a n d q → ⊥)
none_possible a n d = (λ h q pq. omega (arith, sum_le n q a pq.within, pq.meets), λ h. go h (dec_lt (sum n a) d))
  where
    go : ((q : ℕ → ℕ) → Possible none a n d q → ⊥) → Dec (sum n a < d) → sum n a < d
    go h (yes l) = l
    go h (no l) = absurd (h (schedule none a n d) (schedule_possible none a n d (omega arith)))

-- ---- both rest on nothing but the first n plants
pub possible_eq : (least a : ℕ → ℕ) (n d : ℕ) (q r : ℕ → ℕ)
    → ((i : ℕ) → i < n → q i ≡ r i)
    → Possible least a n d q
    → Possible least a n d r
possible_eq least a n d q r e h =
    record {
      enough = λ i l. omega (arith, e i l, h.enough i l);
      within = λ i l. omega (arith, e i l, h.within i l);
      meets = sym (sum_eq n q r e) ∙ h.meets;
    }

pub cost_eq : (p : ℕ → ℕ) (n : ℕ) (q r : ℕ → ℕ) → ((i : ℕ) → i < n → q i ≡ r i) → cost p n q ≡ cost p n r
unfolding cost
cost_eq p n q r e = sum_eq n (λ i. p i * q i) (λ i. p i * r i) (λ i l. ap (λ (z : ℕ). p i * z) (e i l))
