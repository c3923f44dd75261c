-- Sums, picks and searches over an index: the words in which every rule of the paper is written. Assumes nothing.
use Rattle.std.specs.Prelude.{ℕ, zero, suc, ◌+◌, max, Bool, true, false, eqb}

-- f 0 + f 1 + .. + f (n - 1)
unfoldable pub sum : ℕ → (ℕ → ℕ) → ℕ
sum zero f = 0
sum (suc n) f = sum n f + f n

-- the greatest of 0, f 0, .. and f (n - 1)
unfoldable pub peak : ℕ → (ℕ → ℕ) → ℕ
peak zero f = 0
peak (suc n) f = max (peak n f) (f n)

-- v where the test holds, 0 where it does not
unfoldable pub pick : Bool → ℕ → ℕ
pick true v = v
pick false v = 0

-- what the rows of key k hold, of the first m: row j has the key `key j` and the value `v j`
unfoldable pub keyed : (key v : ℕ → ℕ) → ℕ → ℕ → ℕ
keyed key v m k = sum m (λ j. pick (eqb (key j) k) (v j))

unfoldable pub stop : Bool → ℕ → ℕ
stop true k = 0
stop false k = suc k

-- the least i below n at which the test holds, and n where there is none
unfoldable pub first : ℕ → (ℕ → Bool) → ℕ
first zero t = 0
first (suc n) t = stop (t 0) (first n (λ k. t (suc k)))
