-- Numbers copied over a part of a list that is filled from the front. Assumes nothing.
use Prim.Native.Nat.{ℕ, ◌+◌, ◌-◌, ◌<◌, ◌≤◌}
use native.Mathlib.Decide.{dec_lt}
use mathlib.Core.List.{List}
use mathlib.Core.Path.{◌≡◌, ◌∙◌}
use lib.ListN.{length}
use borrow.Rule.Slice.PartMut.{put_mid}
use Rattle.std.proofs.Common.{arith}
use Rattle.std.proofs.lemmas.List.{places}
use Rattle.sums.specs.Lists.{at, Filled}

-- the k cells behind the first n
module _ (l ys : List ℕ) (n k : ℕ) (h : n + k ≤ length l) (e : length ys ≡ k) where
  before_part : (i : ℕ) → i < n → at (put_mid n k l ys) i ≡ at l i
  before_part i m = grind (arith, places)

  in_part : (i : ℕ) → n ≤ i → i < n + k → at (put_mid n k l ys) i ≡ at ys (i - n)
  in_part i m q = grind (arith, places)

  behind_part : (i : ℕ) → n + k ≤ i → at (put_mid n k l ys) i ≡ at l i
  behind_part i m = grind (arith, places)

  part_long : length (put_mid n k l ys) ≡ length l
  part_long = grind (arith, places)

  pub part_copied : (l₀ : List ℕ) (f : ℕ → ℕ)
      → ((j : ℕ) → j < k → at ys j ≡ f (n + j))
      → Filled 0 l₀ l n f
      → Filled 0 l₀ (put_mid n k l ys) (n + k) f
  part_copied l₀ f g r =
      record {
        done = λ i m. go i m (dec_lt i n);
        kept = λ i m. behind_part i m ∙ r.kept i (omega arith);
        long = part_long ∙ r.long;
      }
    where
      go : (i : ℕ) → i < n + k → Dec (i < n) → at (put_mid n k l ys) i ≡ f i
      go i m (yes q) = before_part i q ∙ r.done i q
      go i m (no q) =
          let z : n + (i - n) ≡ i = omega arith in
          in_part i (omega arith) m ∙ (rw z at (g (i - n) (omega arith)))
