-- Laws of `first_bad`, over any verdict f of a row. Assumes nothing.
use Rattle.std.specs.Prelude.{Ok, Err}
use Prim.Native.Nat.{ℕ, suc, ◌+◌, ◌-◌, ◌<◌, ◌≤◌}
use mathlib.Core.Path.{◌≡◌}
use native.Mathlib.Omega.{arith}
use native.Mathlib.Numerals.{add-one}
use Rattle.refusals.specs.Refusals.{first_bad, or_else}
use Rattle.refusals.specs.declared.Refusal.{Refusal}
use Rattle.refusals.specs.Refusals.{Verdict}

module _ (f : ℕ → Verdict) (n : ℕ) where
  -- nothing is left
  pub none_bad : (i : ℕ) → n ≤ i → first_bad f i (n - i) ≡ Ok tt
  unfolding first_bad
  none_bad i h = let e : n - i ≡ 0 = omega arith in rw e

  -- one row and the rest
  step_bad : (i : ℕ) → i < n → first_bad f i (n - i) ≡ or_else (f i) (first_bad f (i + 1) (n - (i + 1)))
  unfolding first_bad
  step_bad i h = let e : n - i ≡ suc (n - (i + 1)) = omega arith in rw (e, add-one)

  -- a good row is passed
  pub good_row : (i : ℕ) → i < n → f i ≡ Ok tt → first_bad f i (n - i) ≡ first_bad f (i + 1) (n - (i + 1))
  good_row i h e = rw (step_bad i h, e)

  -- a bad row ends it
  pub bad_row : (i : ℕ) (r : Refusal) → i < n → f i ≡ Err r → first_bad f i (n - i) ≡ Err r
  bad_row i r h e = rw (step_bad i h, e)

  pub from_start : first_bad f 0 n ≡ first_bad f 0 (n - 0)
  from_start = let e : n - 0 ≡ n = omega arith in rw e
