-- Division by a rate: a rate that is not above amount ÷ total gives no more than the floor, and what then lacks to the product tells
-- whether it is the floor. Assumes nothing.
use mathlib.Core.Path.{◌≡◌, sym, ap, ◌∙◌}
use Prim.Native.Nat.{ℕ, ◌-◌, ◌*◌, ◌/◌, ◌%◌, ◌≤◌, ◌<◌}
use native.Mathlib.Nat.{mul-le-mul_right, le_of_mul-le-mul_right, div-mul-le_self, div-add-mod', div-eq_of_lt-le}
use native.Mathlib.Omega.{arith}
use Rattle.share.specs.Lacks.{whole_rate, Rate}

-- of a product p of amount and weight
module _ (a w t p : ℕ) (e : p ≡ a * w) where
  -- what the rate gives is not above the floor
  pub guess_below : (rate g : ℕ) → Rate a t rate → g ≡ rate * w / whole_rate → g * t ≤ p
  guess_below rate g r h =
      rw (h, e)
      (le_of_mul-le-mul_right {k = whole_rate}
      (omega (
        arith,
        mul-le-mul_right t (div-mul-le_self (rate * w) whole_rate),
        mul-le-mul_right w r.below,
      ))
      (omega arith))

  -- a number that leaves less than the total is the floor, and what it leaves is the remainder
  pub floor_is : (g : ℕ) → g * t ≤ p → p - g * t < t → (g ≡ a * w / t) × (p - g * t ≡ a * w % t)
  floor_is g h l =
      let q : p / t ≡ g = div-eq_of_lt-le t h (omega arith) in
      let r : p - g * t ≡ p % t = omega (arith, ap (λ (z : ℕ). z * t) q, div-add-mod' p t) in
      (sym q ∙ ap (λ (z : ℕ). z / t) e, r ∙ ap (λ (z : ℕ). z % t) e)
