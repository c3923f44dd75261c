-- The order of merit is crossing's, with the offer for a key: so what is ahead of a plant is what the cheaper ones hold, and at its
-- own price the rows before it. Assumes nothing.
use Prim.Native.Nat.{ℕ, ◌+◌, ◌≤◌, ◌<◌}
use native.Mathlib.Omega.{arith}
use mathlib.Core.Path.{◌≡◌, refl, ◌∙◌}
use Rattle.sums.specs.Sums.{keyed}
use Rattle.crossing.specs.Crossing.{held_below, comes_before, standing}
use Rattle.crossing.proofs.Crossing.{standing_is, group_front, below_front}
use Rattle.merit.specs.Merit.{before, ahead}

module _ (p a : ℕ → ℕ) (n : ℕ) where
  pub ahead_standing : (i : ℕ) → ahead p a n i ≡ standing p a n i
  unfolding ahead before standing comes_before
  ahead_standing i = refl

  pub ahead_is : (i : ℕ) → i ≤ n → ahead p a n i ≡ held_below p a n (p i) + keyed p a i (p i)
  ahead_is i h = ahead_standing i ∙ standing_is p a n i h

  -- a dearer plant has a cheaper one ahead of it, with all that is ahead of that
  pub ahead_dearer : (i j : ℕ) → i < n → j < n → p j < p i → ahead p a n j + a j ≤ ahead p a n i
  ahead_dearer i j k l h =
      omega (
        arith,
        ahead_is i (omega arith),
        ahead_is j (omega arith),
        group_front p a n j l,
        below_front p a n j (p i) l h,
      )
