-- Less than 1 from the exact proportion is the proportion rounded down, or up. Assumes nothing.
use Prim.Native.Nat.{ℕ, ◌+◌, ◌-◌, ◌*◌, ◌/◌, ◌%◌, ◌≤◌, ◌<◌}
use native.Mathlib.Nat.{div-add-mod', mod-lt, mul-le-mul_right}
use native.Mathlib.Decide.{ℕ_discrete}
use native.Mathlib.Omega.{arith}
use mathlib.Core.Bool.{Bool, true, false, ◌&&◌, ◌||◌}
use mathlib.Core.Logic.{◌⊎◌, inl, inr, ⊎_elim}
use mathlib.Core.Path.{◌≡◌, refl, ap, ◌∙◌}
use lib.Dec.{ltb, eqb}
use borrow.Author.Tests.{lt-ltb, eq-eqb, ne_eqb, ltb-true, eqb-true}
use Rattle.sums.proofs.Tests.{and_left, and_right, and_both, or_cases}
use Rattle.sums.proofs.Cut.{cut}
use Rattle.statement.specs.Follows.{Near}
use Rattle.statement.specs.Decide.{is_near}
use Rattle.statement.proofs.Every.{near_told, near_tells}
use Rattle.statement.proofs.Quick.{same_test}

-- of nothing nothing is near: a share of a whole of 0 is no amount's
pub near_nothing : (a w t x : ℕ) → t ≡ 0 → is_near a w t x ≡ false
near_nothing a w t x e = go (is_near a w t x) refl
  where
    go : (u : Bool) → is_near a w t x ≡ u → u ≡ false
    go false q = refl
    go true q =
        let n : Near a w t x = near_told a w t x q in
        let z : x * t ≡ 0 = ap (λ (y : ℕ). x * y) e ∙ omega arith in
        absurd (omega (arith, n.over, n.under))

module _ (a w t x : ℕ) (pos : 0 < t) where
  abbrev floor : ℕ
  floor = a * w / t

  abbrev over : ℕ
  over = a * w % t

  whole : floor * t + over ≡ a * w
  whole = div-add-mod' (a * w) t

  less : over < t
  less = mod-lt (a * w) pos

  abbrev parts : Bool
  parts = eqb x floor || (eqb (x - 1) floor && (ltb 0 x && ltb 0 over))

  down : x ≡ floor → Near a w t x
  down e =
      let z : x * t ≡ floor * t =
      ap (λ (y : ℕ). y * t) e in record { over = omega (arith, whole); under = omega (arith, whole, less) }

  up : x ≡ floor + 1 → 0 < over → Near a w t x
  up e h =
      let z : x * t ≡ (floor + 1) * t = ap (λ (y : ℕ). y * t) e in
      record { over = omega (arith, whole); under = omega (arith, whole, less) }

  from : Near a w t x → parts ≡ true
  from n = go (cut x floor) (cut (floor + 1) x) (ℕ_discrete x floor)
    where
      go : (x < floor) ⊎ (floor ≤ x) → (floor + 1 < x) ⊎ (x ≤ floor + 1) → Dec (x ≡ floor) → parts ≡ true
      go (inl h) b c = let m : (x + 1) * t ≤ floor * t = mul-le-mul_right t (omega arith) in
          absurd (omega (arith, n.under, whole))
      go (inr h) (inl b) c = let m : (floor + 2) * t ≤ x * t = mul-le-mul_right t (omega arith) in
          absurd (omega (arith, n.over, whole, less))
      go (inr h) (inr b) (yes c) = rw (eq-eqb x floor c)
      go (inr h) (inr b) (no c) =
          let e : x ≡ floor + 1 = omega arith in
          let z : x * t ≡ (floor + 1) * t = ap (λ (y : ℕ). y * t) e in
          rw (ne_eqb x floor c)
          (and_both (eq-eqb (x - 1) floor (omega arith))
          (and_both (lt-ltb 0 x (omega arith)) (lt-ltb 0 over (omega (arith, n.over, whole)))))

  to : parts ≡ true → Near a w t x
  to u =
      ⊎_elim (λ v. down (eqb-true x floor v)) above
      (or_cases (eqb x floor) (eqb (x - 1) floor && (ltb 0 x && ltb 0 over)) u)
    where
      above : (eqb (x - 1) floor && (ltb 0 x && ltb 0 over)) ≡ true → Near a w t x
      above v =
          let e : x - 1 ≡ floor = eqb-true (x - 1) floor (and_left _ _ v) in
          let r = and_right (eqb (x - 1) floor) (ltb 0 x && ltb 0 over) v in
          let p : 0 < x = ltb-true 0 x (and_left _ _ r) in
          up (omega arith) (ltb-true 0 over (and_right (ltb 0 x) (ltb 0 over) r))

  near_floor : parts ≡ is_near a w t x
  near_floor = same_test parts (is_near a w t x) (λ u. near_tells a w t x (to u)) (λ u. from (near_told a w t x u))

-- as the code has it: y is the share, z is it less 1, m is the product
pub near_parts : (a w t x m y z : ℕ) → (t ≡ 0 → ⊥) → m ≡ a * w → y ≡ x → z ≡ y - 1
    → (eqb y (m / t) || (eqb z (m / t) && (ltb 0 y && ltb 0 (m % t)))) ≡ is_near a w t x
near_parts a w t x m y z pos e f g = rw (g, f, e) (near_floor a w t x (omega arith))
