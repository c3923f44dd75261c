-- The rows of a stretch of bytes are those of the whole, from the stretch's first row on. Assumes nothing.
use Prim.Native.Nat.{ℕ, ◌+◌, ◌*◌, ◌/◌, ◌<◌, ◌≤◌}
use native.Mathlib.Omega.{arith}
use mathlib.Core.Path.{◌≡◌, ap, ◌∙◌}
use mathlib.Core.List.{List}
use borrow.Author.Tests.{lt-ltb}
use lib.ListN.{length, take, drop, length-drop}
use lib.Seq.{get_or-take, get_or-drop, length-take-le}
use Rattle.sums.specs.Lists.{at}
use Rattle.octets.specs.Bytes.{u32_at, words_at}

-- the n rows from row a on
abbrev pub stretch : List ℕ → (a n : ℕ) → List ℕ
stretch s a n = take (16 * n) (drop (16 * a) s)

module _ (s : List ℕ) (a n : ℕ) (l : 16 * a + 16 * n ≤ length s) where
  pub stretch_length : length (stretch s a n) ≡ 16 * n
  stretch_length = length-take-le (16 * n) (drop (16 * a) s) (rw length-drop (omega arith))

  stretch_byte : (k m : ℕ) → k < 16 * n → m ≡ 16 * a + k → at (stretch s a n) k ≡ at s m
  stretch_byte k m h e = get_or-take (16 * n) (drop (16 * a) s) k 0 h ∙ get_or-drop (16 * a) s k 0 ∙ ap (at s) (omega arith)

  stretch_number : (k m : ℕ) → k + 3 < 16 * n → m ≡ 16 * a + k → u32_at (stretch s a n) k ≡ u32_at s m
  unfolding u32_at
  stretch_number k m h e =
      rw (
        stretch_byte k m (omega arith) e,
        stretch_byte (k + 1) (m + 1) (omega arith) (omega arith),
        stretch_byte (k + 2) (m + 2) (omega arith) (omega arith),
        stretch_byte (k + 3) (m + 3) (omega arith) (omega arith),
      )

  pub stretch_row : (j : ℕ) → j < n → words_at (stretch s a n) j ≡ words_at s (a + j)
  unfolding words_at
  stretch_row j h =
      let p : j < length (stretch s a n) / 16 = omega (arith, stretch_length) in
      let q : a + j < length s / 16 = omega arith in
      rw (
        lt-ltb j (length (stretch s a n) / 16) p,
        lt-ltb (a + j) (length s / 16) q,
        stretch_number (16 * j) (16 * (a + j)) (omega arith) (omega arith),
        stretch_number (16 * j + 4) (16 * (a + j) + 4) (omega arith) (omega arith),
        stretch_number (16 * j + 8) (16 * (a + j) + 8) (omega arith) (omega arith),
        stretch_number (16 * j + 12) (16 * (a + j) + 12) (omega arith) (omega arith),
      )
