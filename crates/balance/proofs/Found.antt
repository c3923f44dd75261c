-- What a search among n finds, and the refusal that it gives. Assumes nothing.
use Rattle.std.specs.Prelude.{Some, None, IfSome}
use Prim.Native.Nat.{ℕ, ◌≤◌, ◌<◌}
use native.Mathlib.Omega.{arith}
use native.Mathlib.Decide.{dec_lt}
use mathlib.Core.Path.{◌≡◌}
use borrow.Author.Tests.{lt-ltb, le-ltb, lt-leb, le-leb}
use lib.Dec.{leb}
use Rattle.refusals.specs.Refusals.{bad_exports, refused_unless}
use Rattle.balance.specs.Parts.{found, over_verdict}

pub found_some : (n k : ℕ) → k < n → found n k ≡ Some k
found_some n k h = rw (lt-ltb k n h)

pub found_none : (n k : ℕ) → n ≤ k → found n k ≡ None
found_none n k h = rw (le-ltb k n h)

pub found_verdict : (n k : ℕ) → over_verdict (found n k) ≡ refused_unless (leb n k) bad_exports k
found_verdict n k = go (dec_lt k n)
  where
    go : Dec (k < n) → over_verdict (found n k) ≡ refused_unless (leb n k) bad_exports k
    go (yes h) = rw (found_some n k h, lt-leb n k h)
    go (no h) = let m : n ≤ k = omega arith in rw (found_none n k m, le-leb n k m)

pub found_within : (n k m : ℕ) → n ≤ m → IfSome (found n k) (λ a. a < m)
found_within n k m h = go (dec_lt k n)
  where
    go : Dec (k < n) → IfSome (found n k) (λ a. a < m)
    go (yes l) = rw (found_some n k l) (omega arith)
    go (no l) = let p : n ≤ k = omega arith in rw (found_none n k p) tt
