-- The places at which a test holds, counted from below: each is found again by how many stand before it. Assumes nothing.
use Prim.Native.Nat.{ℕ, zero, suc, ◌+◌, ◌≤◌, ◌<◌}
use native.Mathlib.Omega.{arith}
use native.Mathlib.Decide.{dec_lt}
use mathlib.Core.Bool.{Bool, true, false, ◌&&◌}
use mathlib.Core.Path.{◌≡◌, refl}
use lib.Dec.{eqb}
use borrow.Author.Tests.{eq-eqb, ne_eqb}
use Rattle.sums.specs.Sums.{sum, pick}
use Rattle.sums.proofs.Sums.{sum_none, sum_step, sum_front, sum_mono}
use Rattle.sums.proofs.Cut.{sum_few}
use Rattle.sums.proofs.Picks.{pick_true, pick_false, pick_le}
use Rattle.sums.proofs.First.{first_is}
use Rattle.sums.proofs.Tests.{and_both, and_early, and_late}
use Rattle.mend.specs.Mend.{count_to, place_of}

module _ (t : ℕ → Bool) where
  pub count_none : count_to t 0 ≡ 0
  unfolding count_to
  count_none = sum_none _

  -- one place more
  pub count_step : (n : ℕ) → count_to t (n + 1) ≡ count_to t n + pick (t n) 1
  unfolding count_to
  count_step n = sum_step n _

  pub count_few : (n : ℕ) → count_to t n ≤ n
  unfolding count_to
  count_few n = sum_few n _ (λ i l. pick_le (t i) 1)

  pub count_mono : (m n : ℕ) → m ≤ n → count_to t m ≤ count_to t n
  unfolding count_to
  count_mono m n h = sum_mono m n _ h

  -- who stands below another of them has fewer before it
  pub count_rises : (j k : ℕ) → j < k → t j ≡ true → count_to t j < count_to t k
  unfolding count_to
  count_rises j k h e = omega (arith, sum_front k j (λ i. pick (t i) 1) h, pick_true (t j) 1 e)

  -- a place at which the test holds is found by how many stand before it
  pub place_is : (n k : ℕ) → k < n → t k ≡ true → place_of t n (count_to t k) ≡ k
  unfolding place_of
  place_is n k h e = first_is n k _ h (and_both e (eq-eqb (count_to t k) (count_to t k) refl)) (λ j l. go j l (t j) refl)
    where
      go : (j : ℕ) → j < k → (b : Bool) → t j ≡ b → (t j && eqb (count_to t j) (count_to t k)) ≡ false
      go j l true q =
          and_late (t j) (ne_eqb (count_to t j) (count_to t k)
          (λ (r : count_to t j ≡ count_to t k). omega (arith, count_rises j k l q)))
      go j l false q = and_early _ q

  -- with fewer than there are before it, there is one
  pub record Found (n i k : ℕ) : Type 0 where
    pub within : k < n
    pub holds : t k ≡ true
    pub before : count_to t k ≡ i

  some : (n i : ℕ) → i < count_to t n → (k : ℕ) × Found n i k
  unfolding count_to sum
  some zero i h = absurd (omega arith)
  some (suc n) i h = go (t n) refl h (dec_lt i (count_to t n)) (λ l. some n i l)
    where
      go : (b : Bool)
          → t n ≡ b
          → i < count_to t n + pick b 1
          → Dec (i < count_to t n)
          → (i < count_to t n → (k : ℕ) × Found n i k)
          → (k : ℕ) × Found (suc n) i k
      go b e m (yes l) r =
          let (k, f) = r l in
          (k, record { within = omega (arith, f.within); holds = f.holds; before = f.before })
      go true e m (no l) r = (n, record { within = omega arith; holds = e; before = omega (arith, pick_le true 1) })
      go false e m (no l) r = absurd (omega (arith, pick_false false 1 refl))

  pub place_found : (n i : ℕ) → i < count_to t n → Found n i (place_of t n i)
  place_found n i h =
      let (k, f) = some n i h in
      let e : place_of t n i ≡ k = rw f.before at (place_is n k f.within f.holds) in
      rw e f
