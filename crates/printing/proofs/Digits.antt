-- `decimal` is what the kit's `io::decimal` prints: the fewest decimal digits that hold the number. Assumes nothing.
use Prim.Native.Nat.{ℕ, zero, suc, ◌+◌, ◌-◌, ◌/◌, ◌%◌, ◌^◌, ◌<◌, ◌≤◌}
use mathlib.Core.Path.{◌≡◌, sym, ◌∙◌}
use mathlib.Core.Bool.{cond}
use mathlib.Core.List.{List, [], ◌∷◌, ◌++◌, append_assoc}
use native.Mathlib.Omega.{arith}
use native.Mathlib.Nat.{pow-suc}
use native.Mathlib.Decide.{dec_lt}
use borrow.Author.Tests.{lt-ltb, le-ltb}
use lib.Dec.{ltb}
use Rattle.io.specs.Digits.{last_digits, IsDigitCount}
use Rattle.printing.specs.Text.{spell, decimal}
use Rattle.printing.proofs.Text.{fewer}

-- how many digits n has, at most k + 1
unfoldable pub width : ℕ → ℕ → ℕ
width zero n = 1
width (suc k) n = cond (ltb n 10) 1 (suc (width k (n / 10)))

-- a number below the next power has a tenth below this one
pub tenth : (k n : ℕ) → n < 10 ^ (suc k + 1) → n / 10 < 10 ^ (k + 1)
tenth k n h =
    let e : suc k - 1 + 1 ≡ k + 1 = omega arith in
    rw e at (fewer (suc k) n (omega arith) h)

spell_digits : (k n : ℕ) (rest : List ℕ) → n < 10 ^ (k + 1) → spell k n rest ≡ last_digits 10 (width k n) n ++ rest
unfolding spell width
spell_digits zero n rest h = let e : n % 10 < 10 = omega arith in rw (lt-ltb (n % 10) 10 e)
spell_digits (suc k) n rest h = go (dec_lt n 10) (λ l. spell_digits k (n / 10) ((48 + n % 10) ∷ rest) (tenth k n h))
  where
    go : Dec (n < 10)
        → (10 ≤ n → spell k (n / 10) ((48 + n % 10) ∷ rest) ≡ last_digits 10 (width k (n / 10)) (n / 10)
        ++ ((48 + n % 10) ∷ rest))
        → spell (suc k) n rest ≡ last_digits 10 (width (suc k) n) n ++ rest
    go (yes l) r = let g : n % 10 < 10 = omega arith in rw (lt-ltb n 10 l, lt-ltb (n % 10) 10 g)
    go (no l) r =
        let g : n % 10 < 10 = omega arith in
        let m : 10 ≤ n = omega arith in
        rw (le-ltb n 10 m, lt-ltb (n % 10) 10 g)
        (r m ∙ sym (append_assoc (last_digits 10 (width k (n / 10)) (n / 10)) ((48 + n % 10) ∷ []) rest))

record Wide (n w : ℕ) : Type 0 where
  some : 1 ≤ w
  holds : n < 10 ^ w
  tight : 1 < w → 10 ^ (w - 1) ≤ n

widths : (k n : ℕ) → n < 10 ^ (k + 1) → Wide n (width k n)
unfolding width
widths zero n h = record { some = omega arith; holds = h; tight = λ l. absurd (omega arith) }
widths (suc k) n h = go (dec_lt n 10) (λ l. widths k (n / 10) (tenth k n h))
  where
    go : Dec (n < 10) → (10 ≤ n → Wide (n / 10) (width k (n / 10))) → Wide n (width (suc k) n)
    go (yes l) r = rw (lt-ltb n 10 l) (record { some = omega arith; holds = l; tight = λ m. absurd (omega arith) })
    go (no l) r =
        let m : 10 ≤ n = omega arith in
        let w = width k (n / 10) in
        let q : Wide (n / 10) w = r m in
        rw (le-ltb n 10 m)
        (record {
          some = omega arith;
          holds = rw (pow-suc 10 w) (omega (arith, q.holds));
          tight = λ p. more w q;
        })
      where
        more : (w : ℕ) → Wide (n / 10) w → 10 ^ (suc w - 1) ≤ n
        more zero q = absurd (omega (arith, q.some))
        more (suc zero) q = omega arith
        more (suc (suc w)) q =
            let a : suc (suc w) - 1 ≡ suc w = omega arith in
            let b : suc (suc (suc w)) - 1 ≡ suc (suc w) = omega arith in
            let t : 10 ^ suc w ≤ n / 10 = rw a at (q.tight (omega arith)) in
            rw (b, pow-suc 10 (suc w)) (omega arith)

-- every number of 64 bits
pub decimal_is : (n : ℕ) (rest : List ℕ)
    → n < 2 ^ 64
    → IsDigitCount 10 1 n (width 19 n) × (decimal n rest ≡ last_digits 10 (width 19 n) n ++ rest)
decimal_is n rest h =
    let b : n < 10 ^ (19 + 1) = omega arith in
    let w = widths 19 n b in
    ((w.some, w.holds, w.tight), spell_digits 19 n rest b)
