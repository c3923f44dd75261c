-- Money: signed differences and products of 32-bit numbers, in 64 bits and over all agents. Assumes nothing.
use Prim.Native.Nat.{ℕ, zero, suc, ◌+◌, ◌-◌, ◌*◌, ◌^◌, ◌≤◌, ◌<◌}
use native.Mathlib.Nat.{mul-sub, mul_comm, mul-le-mul, mul-le-mul_right, add-mul, zero-mul}
use native.Mathlib.Omega.{arith}
use native.Mathlib.Decide.{dec_lt}
use mathlib.Core.Path.{◌≡◌, refl, sym, ap, ap₂, ◌∙◌}
use borrow.Author.Tests.{lt-ltb, le-ltb}
use lib.IntN.{ℤ, pos, negsuc, neg_ℤ, ◌+ℤ◌, ◌-ℤ◌, ◌*ℤ◌, +ℤ_assoc, +ℤ_comm, neg_ℤ-+ℤ}
use mir.Syntax.{w64}
use mir.Val.{SFits}
use Rattle.limits.specs.Limits.{most_offer}
use Rattle.sums.specs.Sums.{sum}
use Rattle.hour.specs.Signed.{signed_sum}
use Rattle.hour.specs.Lines.{money_of}

-- a difference that is not below 0
pub diff_pos : (a b : ℕ) → b ≤ a → pos a -ℤ pos b ≡ pos (a - b)
diff_pos a zero h = ap pos (omega arith)
diff_pos a (suc b) h = simp (le-ltb a (suc b) h)

-- a difference below 0
pub diff_neg : (a b : ℕ) → a < b → pos a -ℤ pos b ≡ neg_ℤ (pos (b - a))
diff_neg a zero h = absurd (omega arith)
diff_neg a (suc b) h =
    let e : suc b - a ≡ suc (b - a) = omega arith in
    simp (lt-ltb a (suc b) h, e) (ap negsuc (omega arith))

neg_small : (x : ℕ) → x < 2 ^ 63 → SFits w64 (neg_ℤ (pos x))
neg_small zero h = record { sfits = h }
neg_small (suc x) h = record { sfits = omega arith }

-- a difference of two naturals fits where each does
pub diff_fits : (a b : ℕ) → a < 2 ^ 63 → b < 2 ^ 63 → SFits w64 (pos a -ℤ pos b)
diff_fits a b h k = go (dec_lt a b)
  where
    go : Dec (a < b) → SFits w64 (pos a -ℤ pos b)
    go (yes l) = rw (diff_neg a b l) (neg_small (b - a) (omega arith))
    go (no l) = rw (diff_pos a b (omega arith)) (record { sfits = omega arith })

neg_times : (x p : ℕ) → neg_ℤ (pos x) *ℤ pos p ≡ neg_ℤ (pos (x * p))
neg_times zero p = let e : 0 * p ≡ 0 = omega arith in rw e
neg_times (suc x) p = refl

-- owed to the agent, or by it
pub money_pos : (a b p : ℕ) → b ≤ a → money_of a b p ≡ pos ((a - b) * p)
unfolding money_of
money_pos a b p h = rw (diff_pos a b h)

pub money_neg : (a b p : ℕ) → a < b → money_of a b p ≡ neg_ℤ (pos ((b - a) * p))
unfolding money_of
money_neg a b p h = rw (diff_neg a b h) (neg_times (b - a) p)

-- the product fits
pub money_fits : (a b p : ℕ) → a < 2 ^ 32 → b < 2 ^ 32 → p ≤ most_offer → SFits w64 (money_of a b p)
money_fits a b p h k l = go (dec_lt a b)
  where
    most : (x : ℕ) → x ≤ 4294967296 → x * p ≤ 4294967296 * most_offer
    most x m = mul-le-mul m l

    go : Dec (a < b) → SFits w64 (money_of a b p)
    go (yes m) = rw (money_neg a b p m) (neg_small ((b - a) * p) (omega (arith, most (b - a) (omega arith))))
    go (no m) = rw (money_pos a b p (omega arith)) (record { sfits = omega (arith, most (a - b) (omega arith)) })

-- ---- over all agents
less_times : (a b p : ℕ) → (a - b) * p ≡ a * p - b * p
less_times a b p = rw (mul_comm (a - b) p, mul_comm a p, mul_comm b p) (mul-sub p a b)

neg_least : (a b : ℕ) → a ≤ b → pos a -ℤ pos b ≡ neg_ℤ (pos (b - a))
neg_least a b h = go (dec_lt a b)
  where
    go : Dec (a < b) → pos a -ℤ pos b ≡ neg_ℤ (pos (b - a))
    go (yes l) = diff_neg a b l
    go (no l) =
        let e : a - b ≡ 0 = omega arith in
        let z : b - a ≡ 0 = omega arith in
        diff_pos a b (omega arith) ∙ rw (e, z)

-- a difference of two products
pub money_products : (a b p : ℕ) → money_of a b p ≡ pos (a * p) -ℤ pos (b * p)
money_products a b p = go (dec_lt a b)
  where
    go : Dec (a < b) → money_of a b p ≡ pos (a * p) -ℤ pos (b * p)
    go (yes l) =
        money_neg a b p l ∙ ap (λ (z : ℕ). neg_ℤ (pos z)) (less_times b a p)
        ∙ sym (neg_least (a * p) (b * p) (mul-le-mul_right p (omega arith)))
    go (no l) =
        money_pos a b p (omega arith) ∙ ap pos (less_times a b p)
        ∙ sym (diff_pos (a * p) (b * p) (mul-le-mul_right p (omega arith)))

swap : (w x y z : ℤ) → (w +ℤ x) +ℤ (y +ℤ z) ≡ (w +ℤ y) +ℤ (x +ℤ z)
swap w x y z =
    +ℤ_assoc w x (y +ℤ z)
    ∙ ap (λ (v : ℤ). w +ℤ v) (sym (+ℤ_assoc x y z) ∙ ap (λ (v : ℤ). v +ℤ z) (+ℤ_comm x y) ∙ +ℤ_assoc y x z)
    ∙ sym (+ℤ_assoc w y (x +ℤ z))

-- differences add up
pub diff_add : (a b c d : ℕ) → (pos a -ℤ pos b) +ℤ (pos c -ℤ pos d) ≡ pos (a + c) -ℤ pos (b + d)
diff_add a b c d = swap (pos a) (neg_ℤ (pos b)) (pos c) (neg_ℤ (pos d)) ∙ ap (λ (v : ℤ). pos (a + c) +ℤ v) (sym (neg_ℤ-+ℤ (pos b) (pos d)))

pub money_add : (a b c d p : ℕ) → money_of a b p +ℤ money_of c d p ≡ money_of (a + c) (b + d) p
money_add a b c d p =
    ap₂ ◌+ℤ◌ (money_products a b p) (money_products c d p) ∙ diff_add (a * p) (b * p) (c * p) (d * p)
    ∙ ap₂ (λ (x y : ℕ). pos x -ℤ pos y) (sym (add-mul a c p)) (sym (add-mul b d p))
    ∙ sym (money_products (a + c) (b + d) p)

pub signed_eq : (n : ℕ) (f g : ℕ → ℤ) → ((a : ℕ) → a < n → f a ≡ g a) → signed_sum n f ≡ signed_sum n g
unfolding signed_sum
signed_eq zero f g h = refl
signed_eq (suc n) f g h = ap₂ ◌+ℤ◌ (signed_eq n f g (λ a l. h a (omega arith))) (h n (omega arith))

-- the money of all is that of what all sold and bought
pub money_sum : (n : ℕ) (f g : ℕ → ℕ) (p : ℕ) → signed_sum n (λ a. money_of (f a) (g a) p) ≡ money_of (sum n f) (sum n g) p
unfolding signed_sum sum
money_sum zero f g p = sym (money_pos 0 0 p (omega arith) ∙ ap pos (omega arith))
money_sum (suc n) f g p = ap (λ (z : ℤ). z +ℤ money_of (f n) (g n) p) (money_sum n f g p) ∙ money_add (sum n f) (sum n g) (f n) (g n) p

-- as much sold as bought is no money, at any price
pub money_even : (a b p : ℕ) → a ≡ b → money_of a b p ≡ pos 0
money_even a b p e =
    let z : a - b ≡ 0 = omega arith in
    money_pos a b p (omega arith) ∙ ap pos (ap (λ (x : ℕ). x * p) z ∙ zero-mul p)
