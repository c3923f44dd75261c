-- Laws of sums by key. Assumes nothing.
use Prim.Native.Nat.{ℕ, zero, suc, ◌+◌, ◌*◌, ◌≤◌, ◌<◌}
use native.Mathlib.Omega.{arith}
use native.Mathlib.Decide.{ℕ_discrete}
use mathlib.Core.Bool.{Bool, true, false}
use mathlib.Core.Path.{◌≡◌, refl, ap, ◌∙◌, sym}
use mathlib.Core.List.{List}
use lib.Dec.{eqb}
use lib.ListN.{length, set}
use lib.Seq.{get_or-set_same, get_or-set_other}
use Rattle.sums.specs.Sums.{sum, pick, keyed}
use Rattle.sums.specs.Lists.{at}
use Rattle.sums.proofs.Sums.{sum_step, sum_eq, sum_zero, sum_most, sum_swap}
use Rattle.sums.proofs.Picks.{pick_le, pick_eq, pick_ne}

-- the one index that is a
pub sum_one : (n a v : ℕ) → a < n → sum n (λ i. pick (eqb a i) v) ≡ v
unfolding sum
sum_one zero a v l = absurd (omega arith)
sum_one (suc n) a v l = go (ℕ_discrete a n) (λ m. sum_one n a v m)
  where
    go : Dec (a ≡ n) → (a < n → sum n (λ i. pick (eqb a i) v) ≡ v) → sum n (λ i. pick (eqb a i) v) + pick (eqb a n) v ≡ v
    go (yes e) h = omega (arith, pick_eq a n v e, sum_zero n (λ i. pick (eqb a i) v) (λ i k. pick_ne a i v (λ q. omega arith)))
    go (no e) h = omega (arith, pick_ne a n v e, h (omega arith))

module _ (key v : ℕ → ℕ) where
  pub keyed_none : (k : ℕ) → keyed key v 0 k ≡ 0
  unfolding keyed sum
  keyed_none k = refl

  -- one row more
  pub keyed_step : (m k : ℕ) → keyed key v (m + 1) k ≡ keyed key v m k + pick (eqb (key m) k) (v m)
  unfolding keyed
  keyed_step m k = sum_step m (λ j. pick (eqb (key j) k) (v j))

  -- m rows of at most b each
  pub keyed_most : (m k b : ℕ) → ((j : ℕ) → j < m → v j ≤ b) → keyed key v m k ≤ b * m
  unfolding keyed
  keyed_most m k b h = sum_most m b (λ j. pick (eqb (key j) k) (v j)) (λ j l. omega (arith, pick_le (eqb (key j) k) (v j), h j l))

  -- no row has the key k
  pub keyed_absent : (m k : ℕ) → ((j : ℕ) → j < m → key j ≡ k → ⊥) → keyed key v m k ≡ 0
  unfolding keyed
  keyed_absent m k h = sum_zero m (λ j. pick (eqb (key j) k) (v j)) (λ j l. pick_ne (key j) k (v j) (h j l))

  -- over all keys it is the sum of the values
  pub keyed_total : (n m : ℕ) → ((j : ℕ) → j < m → key j < n) → sum n (λ k. keyed key v m k) ≡ sum m v
  unfolding keyed
  keyed_total n m h =
      sum_swap n m (λ k j. pick (eqb (key j) k) (v j))
      ∙ sum_eq m (λ j. sum n (λ k. pick (eqb (key j) k) (v j))) v (λ j l. sum_one n (key j) (v j) (h j l))

-- a sum over the rows of the key k, each by its place among them
pub keyed_places : (key : ℕ → ℕ) (k : ℕ) (g : ℕ → ℕ) (n : ℕ)
    → sum n (λ j. pick (eqb (key j) k) (g (keyed key (λ _. 1) j k))) ≡ sum (keyed key (λ _. 1) n k) g
unfolding keyed sum pick
keyed_places key k g zero = refl
keyed_places key k g (suc n) = go (eqb (key n) k) (keyed_places key k g n)
  where
    go : (t : Bool) → sum n (λ j. pick (eqb (key j) k) (g (keyed key (λ _. 1) j k))) ≡ sum (keyed key (λ _. 1) n k) g
        → sum n (λ j. pick (eqb (key j) k) (g (keyed key (λ _. 1) j k))) + pick t (g (keyed key (λ _. 1) n k))
        ≡ sum (keyed key (λ _. 1) n k + pick t 1) g
    go true h = rw (sum_step (keyed key (λ _. 1) n k) g) (omega arith)
    go false h = let e : keyed key (λ _. 1) n k + 0 ≡ keyed key (λ _. 1) n k = omega arith in rw e (omega arith)

-- equal keys and values
pub keyed_eq : (key key' v w : ℕ → ℕ) (m k : ℕ)
    → ((j : ℕ) → j < m → key j ≡ key' j)
    → ((j : ℕ) → j < m → v j ≡ w j)
    → keyed key v m k ≡ keyed key' w m k
unfolding keyed
keyed_eq key key' v w m k g h =
    sum_eq m (λ j. pick (eqb (key j) k) (v j)) (λ j. pick (eqb (key' j) k) (w j))
    (λ j l. ap (λ (z : ℕ). pick (eqb z k) (v j)) (g j l) ∙ ap (pick (eqb (key' j) k)) (h j l))

-- one row more, of the key k and the value w, put into the cell of its key: what cell a holds, which has g too
pub keyed_beside : (key v : ℕ → ℕ) (m : ℕ) (out : List ℕ) (k w : ℕ) → k ≡ key m → w ≡ v m → k < length out
    → (a g : ℕ) → at out a ≡ keyed key v m a + g → at (set out k (at out k + w)) a ≡ keyed key v (m + 1) a + g
keyed_beside key v m out k w p q l a g h = go (ℕ_discrete k a)
  where
    step : keyed key v (m + 1) a ≡ keyed key v m a + pick (eqb k a) w
    step = rw (p, q) (keyed_step key v m a)

    go : Dec (k ≡ a) → at (set out k (at out k + w)) a ≡ keyed key v (m + 1) a + g
    go (yes r) =
        omega (
          arith,
          ap (at (set out k (at out k + w))) (sym r),
          get_or-set_same out k (at out k + w) 0 l,
          ap (at out) r,
          h,
          step,
          pick_eq k a w r,
        )
    go (no r) = omega (arith, get_or-set_other out k a (at out k + w) 0 (λ z. r (sym z)), h, step, pick_ne k a w r)

-- the same, where it holds nothing else
pub keyed_put : (key v : ℕ → ℕ) (m n : ℕ) (out : List ℕ) (k w : ℕ) → k ≡ key m → w ≡ v m → k < n → length out ≡ n
    → ((a : ℕ) → a < n → at out a ≡ keyed key v m a)
    → (a : ℕ) → a < n → at (set out k (at out k + w)) a ≡ keyed key v (m + 1) a
keyed_put key v m n out k w p q l e h a la =
    omega (arith, keyed_beside key v m out k w p q (omega arith) a 0 (omega (arith, h a la)))
