-- Numbers put into a list from a place on, and what stands where then. Assumes nothing.
use Prim.Native.Nat.{ℕ, ◌+◌, ◌-◌, ◌<◌, ◌≤◌}
use native.Mathlib.Decide.{dec_lt}
use mathlib.Core.List.{List, ◌++◌}
use mathlib.Core.Path.{◌≡◌, ◌∙◌}
use lib.ListN.{length, take, drop, replicate}
use borrow.Author.Tests.{le-leb, lt-leb, lt-ltb, le-ltb}
use borrow.Rule.Slice.PartMut.{put_mid}
use Rattle.std.proofs.Common.{arith}
use Rattle.std.proofs.lemmas.List.{places, get_or-replicate, length-replicate, length-take-le}
use Rattle.sums.specs.Lists.{at, Filled}
use Rattle.sums.proofs.Lists.{length_list_to, get_d_list_to, list_to_is}
use Rattle.book_cells.specs.Cells.{cell_with, put}

-- the first i of the numbers were put
pub record PutTo (l after : List ℕ) (s : ℕ) (ns : List ℕ) (i : ℕ) : Type 0 where
  pub done : (k : ℕ) → k < i → at after (s + k) ≡ at ns k
  pub low : (k : ℕ) → k < s → at after k ≡ at l k
  pub high : (k : ℕ) → s + i ≤ k → at after k ≡ at l k
  pub long : length after ≡ length l

module _ (l : List ℕ) (s : ℕ) (ns : List ℕ) where
  -- ---- which cell stands at k
  below : (k : ℕ) → k < s → cell_with l s ns k ≡ at l k
  below k h = rw (lt-leb s k h)

  above : (k : ℕ) → s + length ns ≤ k → cell_with l s ns k ≡ at l k
  above k h = let m : s ≤ k = omega arith in rw (le-leb s k m, le-ltb k (s + length ns) h)

  among : (k : ℕ) → s ≤ k → k < s + length ns → cell_with l s ns k ≡ at ns (k - s)
  among k h m = rw (le-leb s k h, lt-ltb k (s + length ns) m)

  pub put_all : (after : List ℕ) → PutTo l after s ns (length ns) → after ≡ put l s ns
  unfolding put
  put_all after p = list_to_is 0 (cell_with l s ns) (length l) after p.long (λ k h. go k (dec_lt k s) (dec_lt k (s + length ns)))
    where
      go : (k : ℕ) → Dec (k < s) → Dec (k < s + length ns) → at after k ≡ cell_with l s ns k
      go k (yes a) b = p.low k a ∙ rw (below k a)
      go k (no a) (yes b) =
          let m : s ≤ k = omega arith in
          let e : s + (k - s) ≡ k = omega arith in
          rw (among k m b) (rw e at (p.done (k - s) (omega arith)))
      go k (no a) (no b) = let m : s + length ns ≤ k = omega arith in p.high k m ∙ rw (above k m)

  -- the numbers copied over their part
  pub put_copied : s + length ns ≤ length l → put_mid s (length ns) l ns ≡ put l s ns
  put_copied h =
      put_all (put_mid s (length ns) l ns)
      (record {
        done = λ k m. grind (arith, places);
        low = λ k m. grind (arith, places);
        high = λ k m. grind (arith, places);
        long = grind (arith, places);
      })

  pub put_long : length (put l s ns) ≡ length l
  unfolding put
  put_long = length_list_to (cell_with l s ns) (length l)

  pub put_in : (i : ℕ) → i < length ns → s + i < length l → at (put l s ns) (s + i) ≡ at ns i
  unfolding put
  put_in i h m =
      let e : s + i - s ≡ i = omega arith in
      get_d_list_to 0 (cell_with l s ns) (length l) (s + i) m ∙ among (s + i) (omega arith) (omega arith) ∙ rw e

  pub put_low : (k : ℕ) → k < s → k < length l → at (put l s ns) k ≡ at l k
  unfolding put
  put_low k h m = get_d_list_to 0 (cell_with l s ns) (length l) k m ∙ below k h

  pub put_high : (k : ℕ) → s + length ns ≤ k → k < length l → at (put l s ns) k ≡ at l k
  unfolding put
  put_high k h m = get_d_list_to 0 (cell_with l s ns) (length l) k m ∙ above k h

-- the first n cells set to 0
pub zeros_front : (l : List ℕ) (n : ℕ) → n ≤ length l → Filled 0 l (replicate (length (take n l)) 0 ++ drop n l) n (λ k. 0)
zeros_front l n h =
    rw (length-take-le n l h)
    (record {
      done = λ k m. grind (arith, places, get_or-replicate, length-replicate);
      kept = λ k m. grind (arith, places, length-replicate);
      long = grind (arith, places, length-replicate);
    })
