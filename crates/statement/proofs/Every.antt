-- Laws of `every`, of picks under two tests, and of the row that is furthest by some measure. Assumes nothing.
use Prim.Native.Nat.{ℕ, zero, suc, ◌+◌, ◌-◌, ◌*◌, ◌≤◌, ◌<◌, zero-le}
use native.Mathlib.Nat.{mul-le-mul_right}
use native.Mathlib.Omega.{arith}
use native.Mathlib.Decide.{dec_lt}
use mathlib.Core.Bool.{Bool, true, false, ◌&&◌}
use mathlib.Core.Logic.{⊎_elim}
use mathlib.Core.Path.{◌≡◌, refl, ap}
use Rattle.sums.specs.Sums.{peak, pick}
use Rattle.sums.proofs.Sums.{peak_ge, peak_hit}
use Rattle.sums.proofs.Picks.{pick_true, pick_false}
use Rattle.sums.proofs.Tests.{and_left, and_right, and_both, and_early, and_late}
use Rattle.sums.proofs.Cut.{cut}
use lib.Dec.{ltb}
use borrow.Author.Tests.{lt-ltb, ltb-true}
use Rattle.statement.specs.Follows.{Near}
use Rattle.statement.specs.Decide.{every, is_near}

pub every_holds : (n : ℕ) (t : ℕ → Bool) → every n t ≡ true → (i : ℕ) → i < n → t i ≡ true
unfolding every
every_holds zero t e i l = absurd (omega arith)
every_holds (suc n) t e i l = go (dec_lt i n) (λ m. every_holds n t (and_left (every n t) (t n) e) i m)
  where
    go : Dec (i < n) → (i < n → t i ≡ true) → t i ≡ true
    go (yes m) r = r m
    go (no m) r = let q : i ≡ n = omega arith in rw q (and_right (every n t) (t n) e)

pub every_from : (n : ℕ) (t : ℕ → Bool) → ((i : ℕ) → i < n → t i ≡ true) → every n t ≡ true
unfolding every
every_from zero t h = refl
every_from (suc n) t h = and_both (every_from n t (λ i l. h i (omega arith))) (h n (omega arith))

-- ---- picks
pub pick_most : (t : Bool) (v w : ℕ) → (t ≡ true → v ≤ w) → pick t v ≤ w
unfolding pick
pick_most true v w h = h refl
pick_most false v w h = zero-le

pub pick_two : (t u : Bool) (v : ℕ) → t ≡ true → u ≡ true → pick (t && u) v ≡ v
pick_two t u v e f = pick_true (t && u) v (and_both e f)

pub pick_not_first : (t u : Bool) (v : ℕ) → t ≡ false → pick (t && u) v ≡ 0
pick_not_first t u v e = pick_false (t && u) v (and_early u e)

pub pick_not_second : (t u : Bool) (v : ℕ) → u ≡ false → pick (t && u) v ≡ 0
pick_not_second t u v e = pick_false (t && u) v (and_late t e)

-- what is picked and is above 0 passed the test
pub pick_passed : (t : Bool) (v : ℕ) → 0 < pick t v → t ≡ true
unfolding pick
pick_passed true v h = refl
pick_passed false v h = absurd (omega arith)

-- ---- of the rows that pass the test, one whose f is the greatest, and one whose f is the least
pub record Extreme (n : ℕ) (t : ℕ → Bool) (past : ℕ → ℕ → Type 0) : Type 0 where
  pub which : ℕ
  pub within : which < n
  pub passes : t which ≡ true
  pub furthest : (j : ℕ) → j < n → t j ≡ true → past j which

pub greatest : (n : ℕ) (t : ℕ → Bool) (f : ℕ → ℕ) (i : ℕ) → i < n → t i ≡ true → Extreme n t (λ j k. f j ≤ f k)
greatest n t f i l e =
    let hit =
    peak_hit n (λ j. pick (t j) (suc (f j)))
    (omega (arith, peak_ge n i (λ j. pick (t j) (suc (f j))) l, pick_true (t i) (suc (f i)) e)) in
    of hit.0 hit.1 hit.2
  where
    of : (k : ℕ)
        → k < n
        → pick (t k) (suc (f k)) ≡ peak n (λ j. pick (t j) (suc (f j)))
        → Extreme n t (λ j k. f j ≤ f k)
    of k lk ek =
        let p : t k ≡ true =
        pick_passed (t k) (suc (f k))
        (omega (arith, peak_ge n i (λ j. pick (t j) (suc (f j))) l, pick_true (t i) (suc (f i)) e)) in
        record {
          which = k;
          within = lk;
          passes = p;
          furthest =
              λ j lj ej. omega (
                arith,
                peak_ge n j (λ j. pick (t j) (suc (f j))) lj,
                pick_true (t j) (suc (f j)) ej,
                pick_true (t k) (suc (f k)) p,
              );
        }

pub least : (n : ℕ) (t : ℕ → Bool) (f : ℕ → ℕ) (i : ℕ) → i < n → t i ≡ true → Extreme n t (λ j k. f k ≤ f j)
least n t f i l e =
    let g : Extreme n t (λ j k. peak n f - f j ≤ peak n f - f k) = greatest n t (λ j. peak n f - f j) i l e in
    record {
      which = g.which;
      within = g.within;
      passes = g.passes;
      furthest = λ j lj ej. omega (arith, g.furthest j lj ej, peak_ge n j f lj, peak_ge n g.which f g.within);
    }

-- ---- numbers of two digits, the second below n
pub digits_less : (n a b i j : ℕ) → i < n → a < b → a * n + i < b * n + j
digits_less n a b i j h l = let m : (a + 1) * n ≤ b * n = mul-le-mul_right n (omega arith) in omega arith

pub digits_second : (n a b i j : ℕ) → i < n → j < n → a * n + i ≡ b * n + j → i ≡ j
digits_second n a b i j h g e =
    ⊎_elim (λ l. absurd (omega (arith, digits_less n a b i j h l)))
    (λ l. ⊎_elim (λ m. absurd (omega (arith, digits_less n b a j i g m))) (λ m. same (omega arith)) (cut b a)) (cut a b)
  where
    same : a ≡ b → i ≡ j
    same q = omega (arith, ap (λ (z : ℕ). z * n) q)

-- ---- less than 1 kWh from the exact proportion
module _ (a w t x : ℕ) where
  pub near_told : is_near a w t x ≡ true → Near a w t x
  unfolding is_near
  near_told e =
      record {
        over = ltb-true (x * t) (a * w + t) (and_left (ltb (x * t) (a * w + t)) (ltb (a * w) (x * t + t)) e);
        under = ltb-true (a * w) (x * t + t) (and_right (ltb (x * t) (a * w + t)) (ltb (a * w) (x * t + t)) e);
      }

  pub near_tells : Near a w t x → is_near a w t x ≡ true
  unfolding is_near
  near_tells n = and_both (lt-ltb (x * t) (a * w + t) n.over) (lt-ltb (a * w) (x * t + t) n.under)
