-- The rows of a section one after the other, and that this is the list that writing speaks of. Assumes nothing.
use Prim.Native.Nat.{ℕ, zero, suc, ◌+◌, ◌*◌, ◌/◌, ◌%◌, ◌<◌, ◌≤◌}
use mathlib.Core.Path.{◌≡◌, ap, sym, ◌∙◌}
use mathlib.Core.List.{List, [], ◌++◌}
use native.Mathlib.Omega.{arith}
use native.Mathlib.Nat.{mul-suc, mul-le-mul_left}
use native.Mathlib.Decide.{dec_lt}
use lib.ListN.{length, length-append, get_or-append}
use lib.Seq.{get_or-append-add}
use Rattle.sums.specs.Lists.{at, list_to}
use Rattle.sums.proofs.Rows.{rows_are}

unfoldable pub rows_to : (ℕ → List ℕ) → ℕ → List ℕ
rows_to row zero = []
rows_to row (suc n) = rows_to row n ++ row n

module _ (w : ℕ) (row : ℕ → List ℕ) (wide : (i : ℕ) → length (row i) ≡ w) where
  pub rows_long : (n : ℕ) → length (rows_to row n) ≡ w * n
  unfolding rows_to
  rows_long zero = omega arith
  rows_long (suc n) =
      length-append (rows_to row n) (row n)
      ∙ (let a = rows_long n in let b = wide n in let c = mul-suc w n in omega (arith, a, b, c))

  rows_at : (n q j : ℕ) → q < n → j < w → at (rows_to row n) (w * q + j) ≡ at (row q) j
  unfolding rows_to
  rows_at zero q j h l = absurd (omega arith)
  rows_at (suc n) q j h l = go (dec_lt q n) (λ m. rows_at n q j m l)
    where
      go : Dec (q < n) → (q < n → at (rows_to row n) (w * q + j) ≡ at (row q) j) → at (rows_to row n ++ row n) (w * q + j) ≡ at (row q) j
      go (yes m) r =
          let e : w * (q + 1) ≤ w * n = mul-le-mul_left w (omega arith) in
          let z = rows_long n in
          get_or-append (rows_to row n) (row n) 0 (w * q + j) (omega (arith, e, z, l)) ∙ r m
      go (no m) r =
          let e : q ≡ n = omega arith in
          let z = rows_long n in
          let f : w * n + j ≡ length (rows_to row n) + j = omega (arith, z) in
          ap (λ (x : ℕ). at (rows_to row n ++ row n) (w * x + j)) e
          ∙ ap (at (rows_to row n ++ row n)) f
          ∙ get_or-append-add (rows_to row n) (row n) j 0
          ∙ ap (λ (x : ℕ). at (row x) j) (sym e)

  -- by their numbers
  pub rows_listed : (g : ℕ → ℕ → ℕ) (n : ℕ) → ((q j : ℕ) → j < w → at (row q) j ≡ g q j)
      → rows_to row n ≡ list_to (λ k. g (k / w) (k % w)) (w * n)
  rows_listed g n h = rows_are w n g (rows_to row n) (rows_long n) (λ q j m l. rows_at n q j m l ∙ h q j l)
