-- Laws of `sum` and `peak`, over any number of terms. Assumes nothing.
use Prim.Native.Nat.{ℕ, zero, suc, ◌+◌, ◌*◌, ◌^◌, ◌≤◌, ◌<◌, max, zero-le}
use native.Mathlib.Nat.{le_of_lt, lt_of_le_of_lt, mul-le-mul_left, mul-lt-mul_of_pos_right}
use lib.Pow.{pow_pos}
use native.Mathlib.Omega.{arith}
use native.Mathlib.Numerals.{add-one}
use native.Mathlib.Decide.{dec_lt}
use mathlib.Core.Path.{◌≡◌, refl, ap₂, sym}
use Rattle.sums.specs.Sums.{sum, peak}

-- the product of two 32-bit numbers fits 64 bits
pub product_fits : {a b : ℕ} → a < 2 ^ 32 → b < 2 ^ 32 → a * b < 2 ^ 64
product_fits {a} {b} ha hb = lt_of_le_of_lt (mul-le-mul_left a (le_of_lt hb)) (mul-lt-mul_of_pos_right ha (pow_pos 32))

pub sum_none : (f : ℕ → ℕ) → sum 0 f ≡ 0
unfolding sum
sum_none f = refl

-- one term more
pub sum_step : (n : ℕ) (f : ℕ → ℕ) → sum (n + 1) f ≡ sum n f + f n
unfolding sum
sum_step n f = rw add-one

pub sum_eq : (n : ℕ) (f g : ℕ → ℕ) → ((i : ℕ) → i < n → f i ≡ g i) → sum n f ≡ sum n g
unfolding sum
sum_eq zero f g h = refl
sum_eq (suc n) f g h = ap₂ ◌+◌ (sum_eq n f g (λ i l. h i (omega arith))) (h n (omega arith))

pub sum_le : (n : ℕ) (f g : ℕ → ℕ) → ((i : ℕ) → i < n → f i ≤ g i) → sum n f ≤ sum n g
unfolding sum
sum_le zero f g h = zero-le
sum_le (suc n) f g h = omega (arith, sum_le n f g (λ i l. h i (omega arith)), h n (omega arith))

-- at most, and less at k
pub sum_lt : (n k : ℕ) (f g : ℕ → ℕ) → ((i : ℕ) → i < n → f i ≤ g i) → k < n → f k < g k → sum n f < sum n g
unfolding sum
sum_lt zero k f g h l s = absurd (omega arith)
sum_lt (suc n) k f g h l s = go (dec_lt k n) (λ m. sum_lt n k f g (λ i q. h i (omega arith)) m s)
  where
    go : Dec (k < n) → (k < n → sum n f < sum n g) → sum n f + f n < sum n g + g n
    go (yes m) r = omega (arith, r m, h n (omega arith))
    go (no m) r =
        let e : k ≡ n = omega arith in
        omega (arith, sum_le n f g (λ i q. h i (omega arith)), rw e at s)

-- one term changed
pub sum_turned : (n k : ℕ) (f g : ℕ → ℕ) → k < n → ((i : ℕ) → (i ≡ k → ⊥) → g i ≡ f i) → sum n g + f k ≡ sum n f + g k
unfolding sum
sum_turned zero k f g l h = absurd (omega arith)
sum_turned (suc n) k f g l h = go (dec_lt k n) (λ m. sum_turned n k f g m h)
  where
    go : Dec (k < n) → (k < n → sum n g + f k ≡ sum n f + g k) → (sum n g + g n) + f k ≡ (sum n f + f n) + g k
    go (yes m) r = omega (arith, r m, h n (λ e. omega arith))
    go (no m) r =
        let e : k ≡ n = omega arith in
        rw e (omega (arith, sum_eq n g f (λ i q. h i (λ d. omega arith))))

pub sum_add : (n : ℕ) (f g : ℕ → ℕ) → sum n (λ i. f i + g i) ≡ sum n f + sum n g
unfolding sum
sum_add zero f g = refl
sum_add (suc n) f g = omega (arith, sum_add n f g)

pub sum_mul : (n m : ℕ) (f : ℕ → ℕ) → sum n (λ i. m * f i) ≡ m * sum n f
unfolding sum
sum_mul zero m f = omega arith
sum_mul (suc n) m f = omega (arith, sum_mul n m f)

pub sum_zero : (n : ℕ) (f : ℕ → ℕ) → ((i : ℕ) → i < n → f i ≡ 0) → sum n f ≡ 0
unfolding sum
sum_zero zero f h = refl
sum_zero (suc n) f h = omega (arith, sum_zero n f (λ i l. h i (omega arith)), h n (omega arith))

pub sum_ones : (n : ℕ) → sum n (λ i. 1) ≡ n
unfolding sum
sum_ones zero = refl
sum_ones (suc n) = omega (arith, sum_ones n)

-- n terms of at most b each
pub sum_most : (n b : ℕ) (f : ℕ → ℕ) → ((i : ℕ) → i < n → f i ≤ b) → sum n f ≤ b * n
unfolding sum
sum_most zero b f h = zero-le
sum_most (suc n) b f h = omega (arith, sum_most n b f (λ i l. h i (omega arith)), h n (omega arith))

-- a front part with the next term is at most the whole
pub sum_front : (n i : ℕ) (f : ℕ → ℕ) → i < n → sum i f + f i ≤ sum n f
unfolding sum
sum_front zero i f l = absurd (omega arith)
sum_front (suc n) i f l = go (dec_lt i n) (λ m. sum_front n i f m)
  where
    go : Dec (i < n) → (i < n → sum i f + f i ≤ sum n f) → sum i f + f i ≤ sum n f + f n
    go (yes m) h = omega (arith, h m)
    go (no m) h = let e : i ≡ n = omega arith in rw e (omega arith)

-- a term is at most the sum
pub sum_term : (n i : ℕ) (f : ℕ → ℕ) → i < n → f i ≤ sum n f
sum_term n i f l = omega (arith, sum_front n i f l)

-- a front part is at most the whole
pub sum_mono : (m n : ℕ) (f : ℕ → ℕ) → m ≤ n → sum m f ≤ sum n f
sum_mono m n f h = go (dec_lt m n)
  where
    go : Dec (m < n) → sum m f ≤ sum n f
    go (yes l) = omega (arith, sum_front n m f l)
    go (no l) = let e : m ≡ n = omega arith in rw e (omega arith)

-- sums over two indices, in either order
pub sum_swap : (n m : ℕ) (f : ℕ → ℕ → ℕ) → sum n (λ i. sum m (λ j. f i j)) ≡ sum m (λ j. sum n (λ i. f i j))
unfolding sum
sum_swap zero m f = sym (sum_zero m (λ j. 0) (λ i l. refl))
sum_swap (suc n) m f = omega (arith, sum_swap n m f, sum_add m (λ j. sum n (λ i. f i j)) (λ j. f n j))

-- a sum above 0 has a term above 0
pub record Some (n : ℕ) (f : ℕ → ℕ) : Type 0 where
  pub which : ℕ
  pub within : which < n
  pub above : 0 < f which

pub sum_some : (n : ℕ) (f : ℕ → ℕ) → 0 < sum n f → Some n f
unfolding sum
sum_some zero f h = absurd (omega arith)
sum_some (suc n) f h = go (dec_lt 0 (f n)) (λ l. sum_some n f l)
  where
    go : Dec (0 < f n) → (0 < sum n f → Some n f) → Some (suc n) f
    go (yes l) r = record { which = n; within = omega arith; above = l }
    go (no l) r =
        let s : Some n f = r (omega arith) in
        record { which = s.which; within = omega (arith, s.within); above = s.above }

-- ---- the peak
pub peak_step : (n : ℕ) (f : ℕ → ℕ) → peak (n + 1) f ≡ max (peak n f) (f n)
unfolding peak
peak_step n f = rw add-one

pub peak_eq : (n : ℕ) (f g : ℕ → ℕ) → ((i : ℕ) → i < n → f i ≡ g i) → peak n f ≡ peak n g
unfolding peak
peak_eq zero f g h = refl
peak_eq (suc n) f g h = ap₂ max (peak_eq n f g (λ i l. h i (omega arith))) (h n (omega arith))

pub peak_ge : (n i : ℕ) (f : ℕ → ℕ) → i < n → f i ≤ peak n f
unfolding peak
peak_ge zero i f l = absurd (omega arith)
peak_ge (suc n) i f l = go (dec_lt i n) (λ m. peak_ge n i f m)
  where
    go : Dec (i < n) → (i < n → f i ≤ peak n f) → f i ≤ max (peak n f) (f n)
    go (yes m) h = omega (arith, h m)
    go (no m) h = let e : i ≡ n = omega arith in rw e (omega arith)

pub peak_most : (n b : ℕ) (f : ℕ → ℕ) → ((i : ℕ) → i < n → f i ≤ b) → peak n f ≤ b
unfolding peak
peak_most zero b f h = zero-le
peak_most (suc n) b f h = omega (arith, peak_most n b f (λ i l. h i (omega arith)), h n (omega arith))

-- a peak above 0 is reached
pub peak_hit : (n : ℕ) (f : ℕ → ℕ) → 0 < peak n f → (k : ℕ) × (k < n) × (f k ≡ peak n f)
unfolding peak
peak_hit zero f l = absurd (omega arith)
peak_hit (suc n) f l = go (dec_lt (peak n f) (f n)) (λ h. peak_hit n f h)
  where
    go : Dec (peak n f < f n) → (0 < peak n f → (k : ℕ) × (k < n) × (f k ≡ peak n f)) → (k : ℕ) × (k < suc n) × (f k ≡ max (peak n f) (f n))
    go (yes m) h = (n, omega arith, omega arith)
    go (no m) h = let (k, lk, ek) = h (omega arith) in (k, omega arith, omega arith)
