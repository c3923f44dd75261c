-- One byte more: what it adds to the changes and to the report. Assumes nothing.
use Prim.Native.Nat.{ℕ, ◌+◌, ◌*◌, ◌/◌, ◌%◌, ◌≤◌, ◌<◌}
use native.Mathlib.Omega.{arith}
use native.Mathlib.Decide.{ℕ_discrete}
use mathlib.Core.Bool.{true}
use mathlib.Core.List.{List}
use mathlib.Core.Path.{◌≡◌, refl}
use lib.ListN.{length, set, length-set}
use borrow.Author.Tests.{eq-eqb, ne_eqb}
use Rattle.sums.specs.Sums.{pick}
use Rattle.sums.specs.Lists.{at, Filled}
use Rattle.sums.proofs.Fill.{filled_more, filled_count}
use Rattle.mend.specs.Mend.{mended_at, count_to, changed, changes, change_place, report_at}
use Rattle.mend.specs.Steps.{notes, noted}
use Rattle.mend.proofs.Places.{count_step, count_mono, place_is}

-- ---- one byte
pub notes_same : (old new : ℕ) → old ≡ new → notes old new ≡ 0
unfolding notes pick
notes_same old new e = rw (eq-eqb old new e)

pub notes_other : (old new : ℕ) → (old ≡ new → ⊥) → notes old new ≡ 1
unfolding notes pick
notes_other old new e = rw (ne_eqb old new e)

module _ (report : List ℕ) (n place old new : ℕ) where
  pub noted_same : old ≡ new → noted report n place old new ≡ report
  unfolding noted
  noted_same e = rw (eq-eqb old new e)

  pub noted_other : (old ≡ new → ⊥)
      → noted report n place old new ≡ set (set (set report (3 * n) place) (3 * n + 1) old) (3 * n + 2) new
  unfolding noted
  noted_other e = rw (ne_eqb old new e)

module _ (s : List ℕ) where
  abbrev before : ℕ → ℕ
  before k = count_to (changed s) k

  -- ---- the count
  pub changes_more : (k : ℕ) → before (k + 1) ≡ before k + notes (at s k) (mended_at s k)
  unfolding changed notes
  changes_more k = count_step (changed s) k

  -- room for all changes is room for those up to byte k
  pub changes_room : (k : ℕ) → k < length s → before k + notes (at s k) (mended_at s k) ≤ changes s
  changes_room k h = omega (arith, changes_more k, count_mono (changed s) (k + 1) (length s) (omega arith))

  -- ---- the report
  pub other_changed : (k : ℕ) → (at s k ≡ mended_at s k → ⊥) → changed s k ≡ true
  unfolding changed
  other_changed k e = rw (ne_eqb _ _ e)

  -- the three cells of byte k's change
  module _ (k : ℕ) (h : k < length s) (e : at s k ≡ mended_at s k → ⊥) where
    found : (q j : ℕ) → j < 3 → q ≡ 3 * before k + j → change_place s (q / 3) ≡ k
    found q j l r =
        let z : q / 3 ≡ before k = omega arith in
        rw z (place_is (changed s) (length s) k h (other_changed k e))

    cell_place : k ≡ report_at s (3 * before k)
    unfolding report_at
    cell_place =
        let z : 3 * before k % 3 ≡ 0 = omega arith in
        rw (z, found (3 * before k) 0 (omega arith) (omega arith))

    cell_old : at s k ≡ report_at s (3 * before k + 1)
    unfolding report_at
    cell_old =
        let z : (3 * before k + 1) % 3 ≡ 1 = omega arith in
        rw (z, found (3 * before k + 1) 1 (omega arith) refl)

    cell_new : mended_at s k ≡ report_at s (3 * before k + 2)
    unfolding report_at
    cell_new =
        let z : (3 * before k + 2) % 3 ≡ 2 = omega arith in
        rw (z, found (3 * before k + 2) 2 (omega arith) refl)

  -- the report up to byte k, and with it
  pub report_more : (r₀ r : List ℕ) (k : ℕ)
      → k < length s
      → 3 * changes s ≤ length r₀
      → Filled 0 r₀ r (3 * before k) (report_at s)
      → Filled 0 r₀ (noted r (before k) k (at s k) (mended_at s k)) (3 * before (k + 1)) (report_at s)
  report_more r₀ r k h room f = go (ℕ_discrete (at s k) (mended_at s k))
    where
      go : Dec (at s k ≡ mended_at s k)
          → Filled 0 r₀ (noted r (before k) k (at s k) (mended_at s k)) (3 * before (k + 1)) (report_at s)
      go (yes e) =
          let z : before (k + 1) ≡ before k = omega (arith, changes_more k, notes_same _ _ e) in
          rw (noted_same r (before k) k _ _ e, z) f
      go (no e) =
          let z : 3 * before (k + 1) ≡ 3 * before k + 2 + 1 = omega (arith, changes_more k, notes_other _ _ e) in
          let l : 3 * before k + 2 < length r = omega (arith, f.long, changes_room k h, notes_other _ _ e) in
          let f1 = filled_more 0 r₀ r (3 * before k) k (report_at s) (omega arith) (cell_place k h e) f in
          let f2 =
          filled_more 0 r₀ _ (3 * before k + 1) (at s k) (report_at s) (rw length-set (omega arith)) (cell_old k h e)
          f1 in
          let q : 3 * before k + 1 + 1 ≡ 3 * before k + 2 = omega arith in
          let g2 = filled_count 0 r₀ _ _ (3 * before k + 2) (report_at s) q f2 in
          rw (noted_other r (before k) k _ _ e, z)
          (filled_more 0 r₀ _ (3 * before k + 2) (mended_at s k) (report_at s)
          (rw (length-set, length-set) (omega arith)) (cell_new k h e) g2)
