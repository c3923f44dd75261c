-- One reason always holds of a plant, the one named is the first, and it says what the schedule is. The tests are gone through as Bools,
-- in their order. Assumes nothing.
use Prim.Native.Nat.{ℕ, ◌≤◌, ◌<◌}
use native.Mathlib.Omega.{arith}
use native.Mathlib.Decide.{dec_lt}
use mathlib.Core.Bool.{Bool, true, false, cond}
use mathlib.Core.Path.{◌≡◌, refl}
use borrow.Author.Tests.{eq-eqb, eqb-true, eqb-false, lt-ltb, ltb-true}
use lib.Dec.{ltb, eqb}
use Rattle.sums.specs.Lists.{at}
use Rattle.sums.proofs.Tests.{clash, and_left, and_right, and_both}
use Rattle.hour.specs.Sheet.{Sheet, plants}
use Rattle.hour.specs.Sound.{Sound}
use Rattle.hour.specs.Lines.{scheduled}
use Rattle.reasons.specs.Reasons.{plant_reason_number, plant_holds, plant_reason_by, holds_of, plant_reason, PlantSays, StandsAhead}
use Rattle.reasons.specs.declared.PlantReason.{PlantReason}
use Rattle.reasons.proofs.Scheduled.{scheduled_least, scheduled_most, behind, in_front, one_between}

-- the tests of the first four, in their order
abbrev chain : (t u v w : Bool) → PlantReason
chain t u v w =
    cond t PlantReason.Nothing
    (cond u PlantReason.Full (cond v PlantReason.Must (cond w PlantReason.Last PlantReason.Beyond)))

module _ (q m a : ℕ) where
  abbrev holds : PlantReason → Bool
  holds = plant_holds q m a

  -- those before the one named do not hold
  pub reason_first : (r : PlantReason) → plant_reason_number r < plant_reason_number (plant_reason_by q m a) → holds r ≡ false
  unfolding plant_reason_by
  reason_first r =
      go r (holds PlantReason.Nothing) (holds PlantReason.Full) (holds PlantReason.Must) (holds PlantReason.Last) refl refl
      refl refl
    where
      go : (r : PlantReason) (t u v w : Bool) → holds PlantReason.Nothing ≡ t → holds PlantReason.Full ≡ u
          → holds PlantReason.Must ≡ v → holds PlantReason.Last ≡ w
          → plant_reason_number r < plant_reason_number (chain t u v w)
          → holds r ≡ false
      go PlantReason.Nothing false u v w e f g x l = e
      go PlantReason.Nothing true u v w e f g x l = absurd (omega arith)
      go PlantReason.Full false false v w e f g x l = f
      go PlantReason.Full false true v w e f g x l = absurd (omega arith)
      go PlantReason.Full true u v w e f g x l = absurd (omega arith)
      go PlantReason.Must false false false w e f g x l = g
      go PlantReason.Must false false true w e f g x l = absurd (omega arith)
      go PlantReason.Must false true v w e f g x l = absurd (omega arith)
      go PlantReason.Must true u v w e f g x l = absurd (omega arith)
      go PlantReason.Last false false false false e f g x l = x
      go PlantReason.Last false false false true e f g x l = absurd (omega arith)
      go PlantReason.Last false false true w e f g x l = absurd (omega arith)
      go PlantReason.Last false true v w e f g x l = absurd (omega arith)
      go PlantReason.Last true u v w e f g x l = absurd (omega arith)
      go PlantReason.Beyond false false false false e f g x l = absurd (omega arith)
      go PlantReason.Beyond false false false true e f g x l = absurd (omega arith)
      go PlantReason.Beyond false false true w e f g x l = absurd (omega arith)
      go PlantReason.Beyond false true v w e f g x l = absurd (omega arith)
      go PlantReason.Beyond true u v w e f g x l = absurd (omega arith)

  module _ (low : m ≤ q) (high : q ≤ a) where
    -- with none of the first four nothing is scheduled
    none_left : holds PlantReason.Full ≡ false → holds PlantReason.Last ≡ false → q ≡ 0
    none_left f x = go (dec_lt 0 q) (dec_lt q a)
      where
        go : Dec (0 < q) → Dec (q < a) → q ≡ 0
        go (yes h) (yes k) = absurd (clash _ (and_both (lt-ltb 0 q h) (lt-ltb q a k)) x)
        go (yes h) (no k) = absurd (eqb-false q a f (omega arith))
        go (no h) k = omega arith

    -- ONE ALWAYS HOLDS: the one named
    pub reason_holds : holds (plant_reason_by q m a) ≡ true
    unfolding plant_reason_by
    reason_holds =
        go (holds PlantReason.Nothing) (holds PlantReason.Full) (holds PlantReason.Must) (holds PlantReason.Last) refl refl
        refl refl
      where
        go : (t u v w : Bool) → holds PlantReason.Nothing ≡ t → holds PlantReason.Full ≡ u
            → holds PlantReason.Must ≡ v → holds PlantReason.Last ≡ w
            → holds (chain t u v w) ≡ true
        go true u v w e f g x = e
        go false true v w e f g x = f
        go false false true w e f g x = g
        go false false false true e f g x = x
        go false false false false e f g x = eq-eqb q 0 (none_left f x)

    -- AND IT SAYS WHAT THE SCHEDULE IS
    pub reason_says : PlantSays q m a (plant_reason_by q m a)
    unfolding plant_reason_by
    reason_says =
        go (holds PlantReason.Nothing) (holds PlantReason.Full) (holds PlantReason.Must) (holds PlantReason.Last) refl refl
        refl refl
      where
        differ : holds PlantReason.Full ≡ false → q < a
        differ f = less (dec_lt q a)
          where
            less : Dec (q < a) → q < a
            less (yes h) = h
            less (no h) = absurd (eqb-false q a f (omega arith))

        more : holds PlantReason.Must ≡ false → 0 < q → m < q
        more g h = less (dec_lt m q) (dec_lt 0 m)
          where
            less : Dec (m < q) → Dec (0 < m) → m < q
            less (yes k) z = k
            less (no k) (yes z) = absurd (clash _ (and_both (lt-ltb 0 m z) (eq-eqb q m (omega arith))) g)
            less (no k) (no z) = omega arith

        go : (t u v w : Bool) → holds PlantReason.Nothing ≡ t → holds PlantReason.Full ≡ u
            → holds PlantReason.Must ≡ v → holds PlantReason.Last ≡ w
            → PlantSays q m a (chain t u v w)
        go true u v w e f g x = let z : a ≡ 0 = eqb-true a 0 e in (omega arith, z)
        go false true v w e f g x = eqb-true q a f
        go false false true w e f g x =
            let z : q ≡ m = eqb-true q m (and_right (ltb 0 m) (eqb q m) g) in
            let k : 0 < m = ltb-true 0 m (and_left (ltb 0 m) (eqb q m) g) in
            (z, k, omega (arith, differ f))
        go false false false true e f g x = (more g (ltb-true 0 q (and_left (ltb 0 q) (ltb q a) x)), differ f)
        go false false false false e f g x =
            let z : q ≡ 0 = none_left f x in (z, omega arith, omega (arith, differ f))

-- ---- of a plant of a sound sheet
module _ (s : Sheet) (ok : Sound s) (i : ℕ) (l : i < plants s) where
  pub plant_holds_lem : holds_of s i (plant_reason s i) ≡ true
  unfolding plant_reason
  plant_holds_lem = reason_holds _ _ _ (scheduled_least s ok i) (scheduled_most s ok i l)

  pub plant_first : (r : PlantReason) → plant_reason_number r < plant_reason_number (plant_reason s i) → holds_of s i r ≡ false
  unfolding plant_reason
  plant_first = reason_first _ _ _

  pub plant_says : PlantSays (scheduled s i) (at s.must_run i) (at s.available i) (plant_reason s i)
  unfolding plant_reason
  plant_says = reason_says _ _ _ (scheduled_least s ok i) (scheduled_most s ok i l)

  last_says : plant_reason s i ≡ PlantReason.Last
      → (at s.must_run i < scheduled s i) × (scheduled s i < at s.available i)
  last_says e = rw e at plant_says

-- PARTLY SCHEDULED, THE LAST ONE NEEDED
module _ (s : Sheet) (ok : Sound s) (i : ℕ) (l : i < plants s) (last : plant_reason s i ≡ PlantReason.Last) where
  -- there is at most one, with must-runs and without
  pub last_once : (j : ℕ) → j < plants s → plant_reason s j ≡ PlantReason.Last → i ≡ j
  last_once j k e =
      let x = last_says s ok i l last in
      let y = last_says s ok j k e in
      one_between s ok i j l k x.0 x.1 y.0 y.1

  -- all who stand ahead of it are scheduled to the full
  pub last_full : (j : ℕ) → j < plants s → StandsAhead s j i → scheduled s j ≡ at s.available j
  last_full j k o = in_front s ok j i k l o (last_says s ok i l last).0

  -- and those behind it run their must-run and no more: nothing, where that is 0
  pub last_needed : (j : ℕ) → j < plants s → StandsAhead s i j → scheduled s j ≡ at s.must_run j
  last_needed j k o = behind s ok i j l k o (last_says s ok i l last).1
