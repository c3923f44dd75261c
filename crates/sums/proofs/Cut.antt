-- Two numbers compared, a sum in two parts, and sums of ones. Assumes nothing.
use Prim.Native.Nat.{ℕ, zero, suc, ◌+◌, ◌≤◌, ◌<◌}
use native.Mathlib.Omega.{arith}
use native.Mathlib.Decide.{dec_lt, ℕ_discrete}
use mathlib.Core.Logic.{◌⊎◌, inl, inr}
use mathlib.Core.Path.{◌≡◌, ◌∙◌}
use lib.Dec.{eqb}
use Rattle.sums.specs.Sums.{sum, pick}
use Rattle.sums.proofs.Sums.{sum_eq, sum_most, sum_ones}
use Rattle.sums.proofs.Picks.{pick_ne}

-- one number is below another, or it is not
pub cut : (a b : ℕ) → (a < b) ⊎ (b ≤ a)
cut a b = go (dec_lt a b)
  where
    go : Dec (a < b) → (a < b) ⊎ (b ≤ a)
    go (yes l) = inl l
    go (no l) = inr (omega arith)

-- a sum that runs on
pub sum_on : (a b : ℕ) (f : ℕ → ℕ) → sum (a + b) f ≡ sum a f + sum b (λ t. f (a + t))
unfolding sum
sum_on a zero f = let e : a + 0 ≡ a = omega arith in rw e (omega arith)
sum_on a (suc b) f = let e : a + suc b ≡ suc (a + b) = omega arith in rw e (omega (arith, sum_on a b f))

-- n terms of at most 1, and of exactly 1
pub sum_few : (n : ℕ) (f : ℕ → ℕ) → ((i : ℕ) → i < n → f i ≤ 1) → sum n f ≤ n
sum_few n f h = omega (arith, sum_most n 1 f h)

pub sum_ones_of : (n : ℕ) (f : ℕ → ℕ) → ((i : ℕ) → i < n → f i ≡ 1) → sum n f ≡ n
sum_ones_of n f h = sum_eq n f (λ i. 1) h ∙ sum_ones n

-- what is picked is there
pub pick_what : (a b v : ℕ) → 0 < pick (eqb a b) v → a ≡ b
pick_what a b v h = go (ℕ_discrete a b)
  where
    go : Dec (a ≡ b) → a ≡ b
    go (yes e) = e
    go (no e) = absurd (omega (arith, pick_ne a b v e))
