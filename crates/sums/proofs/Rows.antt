-- A list of m rows of w numbers each. Assumes nothing.
use Prim.Native.Nat.{ℕ, zero, suc, ◌+◌, ◌*◌, ◌/◌, ◌%◌, ◌<◌, ◌≤◌}
use native.Mathlib.Omega.{arith}
use native.Mathlib.Nat.{mod-lt, mod-eq_of_lt, div-eq_of_lt, div-add-mod, mul-add-div}
use native.Mathlib.Nat.{mul-add-mod_self_left, mul-le-mul_left, lt_of_mul-lt-mul_left}
use mathlib.Core.Path.{◌≡◌, ap, sym, ◌∙◌}
use mathlib.Core.List.{List}
use lib.ListN.{length}
use Rattle.sums.specs.Lists.{at, list_to}
use Rattle.sums.proofs.Lists.{get_d_list_to, list_to_is}

module _ (w m : ℕ) (g : ℕ → ℕ → ℕ) where
  -- number j of row q is g q j
  pub rows_at : (q j : ℕ) → q < m → j < w → at (list_to (λ k. g (k / w) (k % w)) (w * m)) (w * q + j) ≡ g q j
  rows_at q j h l =
      let a : (w * q + j) / w ≡ q + j / w = mul-add-div (omega arith) q j in
      let b : j / w ≡ 0 = div-eq_of_lt l in
      let c : (w * q + j) / w ≡ q = omega arith in
      let d : (w * q + j) % w ≡ j = mul-add-mod_self_left w q j ∙ mod-eq_of_lt l in
      let e : w * (q + 1) ≤ w * m = mul-le-mul_left w (omega arith) in
      get_d_list_to 0 (λ k. g (k / w) (k % w)) (w * m) (w * q + j) (omega arith) ∙ (rw (c, d))

  -- a list is told by its rows
  pub rows_are : (l : List ℕ) → length l ≡ w * m → ((q j : ℕ) → q < m → j < w → at l (w * q + j) ≡ g q j)
      → l ≡ list_to (λ k. g (k / w) (k % w)) (w * m)
  rows_are l e h =
      list_to_is 0 (λ k. g (k / w) (k % w)) (w * m) l e
      (λ k r.
      let p : 0 < w = positive w k r in
      let d : w * (k / w) + k % w ≡ k = div-add-mod k w in
      let q : w * (k / w) < w * m = omega arith in
      ap (at l) (sym d) ∙ h (k / w) (k % w) (lt_of_mul-lt-mul_left w q) (mod-lt k p))
    where
      positive : (w k : ℕ) → k < w * m → 0 < w
      positive zero k r = absurd (omega arith)
      positive (suc w) k r = omega arith
