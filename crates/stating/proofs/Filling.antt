-- Laws of numbers that are put at the places of their rows, line by line. Assumes nothing.
use Prim.Native.Nat.{ℕ, suc, ◌+◌, ◌-◌, ◌≤◌, ◌<◌}
use mathlib.Core.Path.{◌≡◌, ap, sym, ◌∙◌}
use mathlib.Core.List.{List}
use native.Mathlib.Omega.{arith}
use lib.IntN.{ℤ}
use lib.ListN.{length, take, drop, set, length-drop, drop_of_length-le}
use lib.Seq.{sets, take-length}
use Rattle.sums.specs.Lists.{at}
use Rattle.hour.specs.Answer.{lent}
use Rattle.text.proofs.Lines.{next}

-- ---- numbers put one after the other
pub one_more : (out xs : List ℕ) (k i : ℕ) → i < length xs
    → sets out (k + i) (drop i xs) ≡ sets (set out (k + i) (at xs i)) (k + (i + 1)) (drop (i + 1) xs)
one_more out xs k i h =
    let e : suc (k + i) ≡ k + (i + 1) = omega arith in
    ap (sets out (k + i)) (next xs i h)
    ∙ ap (λ (n : ℕ). sets (set out (k + i) (at xs i)) n (drop (i + 1) xs)) e

pub none_left : (out xs : List ℕ) (k i : ℕ) → length xs ≤ i → sets out (k + i) (drop i xs) ≡ out
none_left out xs k i h = ap (sets out (k + i)) (drop_of_length-le xs h)

-- all but the first
pub behind_first : (xs : List ℕ) → take (length xs - 1) (drop 1 xs) ≡ drop 1 xs
behind_first xs = ap (λ (n : ℕ). take n (drop 1 xs)) (sym (length-drop 1 xs)) ∙ take-length (drop 1 xs)

-- ---- four lists by their parts
pub listed_is : {f f' : List ℕ} {m m' : List ℤ} {s s' : List ℕ} {a a' : List ℕ} → f ≡ f' → m ≡ m' → s ≡ s' → a ≡ a'
    → lent f m s a ≡ lent f' m' s' a'
listed_is p q r t = λ i. lent (p i) (q i) (r i) (t i)
