-- Laws of `pick`. Assumes nothing.
use Prim.Native.Nat.{ℕ, zero, suc, ◌+◌, ◌≤◌, ◌<◌}
use native.Mathlib.Omega.{arith}
use native.Mathlib.Nat.{sub-zero}
use native.Mathlib.Decide.{dec_lt, ℕ_discrete}
use mathlib.Core.Bool.{Bool, true, false, ◌&&◌}
use mathlib.Core.Path.{◌≡◌, refl, ap, ◌∙◌, sym}
use lib.Dec.{ltb, eqb}
use borrow.Author.Tests.{lt-ltb, le-ltb, eq-eqb, ne_eqb}
use Rattle.sums.specs.Sums.{sum, pick}
use Rattle.sums.proofs.Sums.{sum_eq}

pub pick_true : (t : Bool) (v : ℕ) → t ≡ true → pick t v ≡ v
unfolding pick
pick_true t v e = rw e

pub pick_false : (t : Bool) (v : ℕ) → t ≡ false → pick t v ≡ 0
unfolding pick
pick_false t v e = rw e

pub pick_le : (t : Bool) (v : ℕ) → pick t v ≤ v
unfolding pick
pick_le true v = omega arith
pick_le false v = omega arith

pub pick_zero : (t : Bool) → pick t 0 ≡ 0
pick_zero t = omega (arith, pick_le t 0)

-- under the test the two values need be equal only where it holds
pub pick_same : (t : Bool) (v w : ℕ) → (t ≡ true → v ≡ w) → pick t v ≡ pick t w
unfolding pick
pick_same true v w h = h refl
pick_same false v w h = refl

-- two tests of one value, and a pick of a sum
pub pick_both : (t u : Bool) (v : ℕ) → pick (t && u) v ≡ pick t (pick u v)
unfolding pick
pick_both true u v = refl
pick_both false u v = refl

pub pick_swap : (t u : Bool) (v : ℕ) → pick t (pick u v) ≡ pick u (pick t v)
unfolding pick
pick_swap true u v = refl
pick_swap false u v = sym (pick_zero u)

pub pick_plus : (t : Bool) (v w : ℕ) → pick t (v + w) ≡ pick t v + pick t w
unfolding pick
pick_plus true v w = refl
pick_plus false v w = refl

-- a function that is 0 at 0 goes through a pick
pub pick_out : (t : Bool) (v : ℕ) (f : ℕ → ℕ) → f 0 ≡ 0 → f (pick t v) ≡ pick t (f v)
unfolding pick
pick_out true v f z = refl
pick_out false v f z = z

pub pick_lt : (a b v : ℕ) → a < b → pick (ltb a b) v ≡ v
pick_lt a b v l = pick_true (ltb a b) v (lt-ltb a b l)

pub pick_ge : (a b v : ℕ) → b ≤ a → pick (ltb a b) v ≡ 0
pick_ge a b v l = pick_false (ltb a b) v (le-ltb a b l)

pub pick_eq : (a b v : ℕ) → a ≡ b → pick (eqb a b) v ≡ v
pick_eq a b v e = pick_true (eqb a b) v (eq-eqb a b e)

pub pick_ne : (a b v : ℕ) → (a ≡ b → ⊥) → pick (eqb a b) v ≡ 0
pick_ne a b v e = pick_false (eqb a b) v (ne_eqb a b e)

-- below the next number stands what is below this one, and what is at it
pub pick_suc : (q x v : ℕ) → pick (ltb q (suc x)) v ≡ pick (ltb q x) v + pick (eqb q x) v
pick_suc q x v = go (dec_lt q x) (ℕ_discrete q x)
  where
    go : Dec (q < x) → Dec (q ≡ x) → pick (ltb q (suc x)) v ≡ pick (ltb q x) v + pick (eqb q x) v
    go (yes l) (yes e) = absurd (omega arith)
    go (yes l) (no e) = omega (arith, pick_lt q (suc x) v (omega arith), pick_lt q x v l, pick_ne q x v e)
    go (no l) (yes e) = omega (arith, pick_lt q (suc x) v (omega arith), pick_ge q x v (omega arith), pick_eq q x v e)
    go (no l) (no e) = omega (arith, pick_ge q (suc x) v (omega arith), pick_ge q x v (omega arith), pick_ne q x v e)

-- under the test q = x, x stands for q
pub pick_at : (q x : ℕ) (f : ℕ → ℕ) → pick (eqb q x) (f q) ≡ pick (eqb q x) (f x)
pick_at q x f = go (ℕ_discrete q x)
  where
    go : Dec (q ≡ x) → pick (eqb q x) (f q) ≡ pick (eqb q x) (f x)
    go (yes e) = ap (λ (y : ℕ). pick (eqb q x) (f y)) e
    go (no e) = pick_ne q x (f q) e ∙ sym (pick_ne q x (f x) e)

-- a sum with a bound on the index inside it is the shorter sum
pub sum_cut : (n i : ℕ) (f : ℕ → ℕ) → i ≤ n → sum n (λ j. pick (ltb j i) (f j)) ≡ sum i f
unfolding sum
sum_cut zero i f h = let e : i ≡ 0 = omega arith in rw e
sum_cut (suc n) i f h = go (dec_lt n i) (λ m. sum_cut n i f m)
  where
    go : Dec (n < i)
        → (i ≤ n → sum n (λ j. pick (ltb j i) (f j)) ≡ sum i f)
        → sum n (λ j. pick (ltb j i) (f j)) + pick (ltb n i) (f n) ≡ sum i f
    go (no m) k = omega (arith, k (omega arith), pick_ge n i (f n) (omega arith))
    go (yes m) k =
        let e : i ≡ suc n = omega arith in
        rw e
        (omega (
          arith,
          pick_lt n (suc n) (f n) (omega arith),
          sum_eq n (λ j. pick (ltb j (suc n)) (f j)) f (λ j l. pick_lt j (suc n) (f j) (omega arith)),
        ))

-- for `search (needs, picks)` at a leaf's returns
pub ruleset picks = (pick_lt, pick_ge, pick_eq, pick_ne, sub-zero)
