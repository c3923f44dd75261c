-- Laws of `first`. Assumes nothing.
use Prim.Native.Nat.{ℕ, zero, suc, ◌≤◌, ◌<◌, zero-le}
use native.Mathlib.Omega.{arith}
use mathlib.Core.Bool.{Bool, true, false}
use mathlib.Core.Path.{◌≡◌, refl, ap}
use Rattle.sums.specs.Sums.{stop, first}

-- the search stops at i
pub first_is : (n i : ℕ) (t : ℕ → Bool) → i < n → t i ≡ true → ((k : ℕ) → k < i → t k ≡ false) → first n t ≡ i
unfolding first stop
first_is zero i t l e h = absurd (omega arith)
first_is (suc n) zero t l e h = rw e
first_is (suc n) (suc i) t l e h =
    rw (h 0 (omega arith))
    (ap suc (first_is n i (λ k. t (suc k)) (omega arith) e (λ k m. h (suc k) (omega arith))))

-- the search finds nothing
pub first_none : (n : ℕ) (t : ℕ → Bool) → ((k : ℕ) → k < n → t k ≡ false) → first n t ≡ n
unfolding first stop
first_none zero t h = refl
first_none (suc n) t h = rw (h 0 (omega arith)) (ap suc (first_none n (λ k. t (suc k)) (λ k m. h (suc k) (omega arith))))

-- below the first the test fails
pub first_below : (n k : ℕ) (t : ℕ → Bool) → k < first n t → t k ≡ false
unfolding first stop
first_below zero k t l = absurd (omega arith)
first_below (suc n) k t l = go (t 0) refl k l (λ j m. first_below n j (λ i. t (suc i)) m)
  where
    go : (b : Bool)
        → t 0 ≡ b
        → (k : ℕ)
        → k < stop b (first n (λ i. t (suc i)))
        → ((j : ℕ) → j < first n (λ i. t (suc i)) → t (suc j) ≡ false)
        → t k ≡ false
    go true e k m r = absurd (omega arith)
    go false e zero m r = e
    go false e (suc j) m r = r j (omega arith)

-- at the first the test holds
pub first_holds : (n : ℕ) (t : ℕ → Bool) → first n t < n → t (first n t) ≡ true
unfolding first stop
first_holds zero t l = absurd (omega arith)
first_holds (suc n) t l = go (t 0) refl l (λ m. first_holds n (λ k. t (suc k)) m)
  where
    go : (b : Bool)
        → t 0 ≡ b
        → stop b (first n (λ k. t (suc k))) < suc n
        → (first n (λ k. t (suc k)) < n → t (suc (first n (λ k. t (suc k)))) ≡ true)
        → t (stop b (first n (λ k. t (suc k)))) ≡ true
    go true e m r = e
    go false e m r = r (omega arith)

pub first_le : (n : ℕ) (t : ℕ → Bool) → first n t ≤ n
unfolding first stop
first_le zero t = zero-le
first_le (suc n) t = go (t 0) (first_le n (λ k. t (suc k)))
  where
    go : (b : Bool) → first n (λ k. t (suc k)) ≤ n → stop b (first n (λ k. t (suc k))) ≤ suc n
    go true r = zero-le
    go false r = omega arith

pub first_eq : (n : ℕ) (t u : ℕ → Bool) → ((k : ℕ) → k < n → t k ≡ u k) → first n t ≡ first n u
unfolding first
first_eq zero t u h = refl
first_eq (suc n) t u h =
    rw (h 0 (omega arith))
    (ap (stop (u 0)) (first_eq n (λ k. t (suc k)) (λ k. u (suc k)) (λ k m. h (suc k) (omega arith))))
