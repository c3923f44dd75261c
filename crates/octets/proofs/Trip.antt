-- Bytes and rows of four 32-bit numbers, both ways round, for any sheet of whole rows. Assumes nothing.
use Prim.Native.Nat.{ℕ, zero, suc, ◌+◌, ◌*◌, ◌/◌, ◌%◌, ◌^◌, ◌<◌}
use native.Mathlib.Omega.{arith}
use native.Mathlib.Decide.{dec_lt}
use mathlib.Core.Path.{◌≡◌, ap, sym, ◌∙◌}
use mathlib.Core.List.{List}
use borrow.Author.Tests.{lt-ltb, le-ltb}
use lib.ListN.{length}
use Rattle.sums.specs.Lists.{at}
use Rattle.sums.proofs.Lists.{length_list_to, get_d_list_to, list_to_is}
use Rattle.octets.specs.Bytes.{u32_at, words_at, word, byte_of, bytes_of}
use Rattle.octets.specs.declared.Words.{Words}

-- each number of a row fits 32 bits
pub record Narrow (w : Words) : Type 0 where
  pub first : w.first < 4294967296
  pub second : w.second < 4294967296
  pub third : w.third < 4294967296
  pub fourth : w.fourth < 4294967296

-- every element is a byte
abbrev pub Bytes : List ℕ → Type 0
Bytes s = (i : ℕ) → at s i < 256

-- ---- from rows to bytes
-- byte m of number j of row r
pub byte_is : (f : ℕ → Words) (r j m k : ℕ) → j < 4 → m < 4 → k ≡ 16 * r + 4 * j + m → byte_of f k ≡ word (f r) j / 256 ^ m % 256
unfolding byte_of
byte_is f r j m k hj hm e =
    let a : k / 16 ≡ r = omega arith in
    let b : k / 4 % 4 ≡ j = omega arith in
    let c : k % 4 ≡ m = omega arith in
    rw (a, b, c)

pub length_bytes_of : (f : ℕ → Words) (n : ℕ) → length (bytes_of f n) ≡ 16 * n
unfolding bytes_of
length_bytes_of f n = length_list_to (byte_of f) (16 * n)

-- a 32-bit number is that of its four bytes
low_bytes : (x : ℕ) → x / 256 ^ 0 % 256 + 256 * (x / 256 ^ 1 % 256) ≡ x % 65536
low_bytes x = omega arith

high_bytes : (x : ℕ) → x / 256 ^ 2 % 256 + 256 * (x / 256 ^ 3 % 256) ≡ x / 65536 % 65536
high_bytes x = omega arith

four_bytes : (x : ℕ)
    → x < 4294967296
    → x / 256 ^ 0 % 256 + 256 * (x / 256 ^ 1 % 256) + 65536 * (x / 256 ^ 2 % 256) + 16777216 * (x / 256 ^ 3 % 256) ≡ x
four_bytes x l = omega (arith, low_bytes x, high_bytes x)

module _ (f : ℕ → Words) (n : ℕ) where
  byte_at : (r j m k : ℕ) → r < n → j < 4 → m < 4 → k ≡ 16 * r + 4 * j + m → at (bytes_of f n) k ≡ word (f r) j / 256 ^ m % 256
  unfolding bytes_of
  byte_at r j m k h hj hm e = get_d_list_to 0 (byte_of f) (16 * n) k (omega arith) ∙ byte_is f r j m k hj hm e

  -- number j of row r is read back
  number_back : (r j k : ℕ) → r < n → j < 4 → k ≡ 16 * r + 4 * j → word (f r) j < 4294967296 → u32_at (bytes_of f n) k ≡ word (f r) j
  unfolding u32_at
  number_back r j k h hj e w =
      rw (
        byte_at r j 0 k h hj (omega arith) (omega arith),
        byte_at r j 1 (k + 1) h hj (omega arith) (omega arith),
        byte_at r j 2 (k + 2) h hj (omega arith) (omega arith),
        byte_at r j 3 (k + 3) h hj (omega arith) (omega arith),
      )
      (four_bytes (word (f r) j) w)

  -- row r is read back
  pub rows_back : (r : ℕ) → r < n → Narrow (f r) → words_at (bytes_of f n) r ≡ f r
  unfolding words_at word
  rows_back r h w =
      let l : r < length (bytes_of f n) / 16 = omega (arith, length_bytes_of f n) in
      let a : u32_at (bytes_of f n) (16 * r) ≡ (f r).first = number_back r 0 _ h (omega arith) (omega arith) w.first in
      let b : u32_at (bytes_of f n) (16 * r + 4) ≡ (f r).second = number_back r 1 _ h (omega arith) (omega arith) w.second in
      let c : u32_at (bytes_of f n) (16 * r + 8) ≡ (f r).third = number_back r 2 _ h (omega arith) (omega arith) w.third in
      let d : u32_at (bytes_of f n) (16 * r + 12) ≡ (f r).fourth = number_back r 3 _ h (omega arith) (omega arith) w.fourth in
      rw (lt-ltb r _ l, a, b, c, d)

-- ---- from bytes to rows
module _ (s : List ℕ) (by : Bytes s) where
  number_narrow : (k : ℕ) → u32_at s k < 4294967296
  unfolding u32_at
  number_narrow k = omega (arith, by k, by (k + 1), by (k + 2), by (k + 3))

  -- the numbers of a row of bytes fit 32 bits
  pub row_narrow : (r : ℕ) → Narrow (words_at s r)
  unfolding words_at
  row_narrow r = go (dec_lt r (length s / 16))
    where
      go : Dec (r < length s / 16) → Narrow (words_at s r)
      go (yes h) =
          rw (lt-ltb r _ h)
          (record { first = number_narrow _; second = number_narrow _; third = number_narrow _; fourth = number_narrow _ })
      go (no h) =
          rw (le-ltb r (length s / 16) (omega arith))
          (record { first = omega arith; second = omega arith; third = omega arith; fourth = omega arith })

  byte_in : (k m : ℕ) → m < 4 → u32_at s k / 256 ^ m % 256 ≡ at s (k + m)
  unfolding u32_at
  byte_in k zero l = let z : k + 0 ≡ k = omega arith in rw z (omega (arith, by k, by (k + 1), by (k + 2), by (k + 3)))
  byte_in k (suc zero) l = omega (arith, by k, by (k + 1), by (k + 2), by (k + 3))
  byte_in k (suc (suc zero)) l = omega (arith, by k, by (k + 1), by (k + 2), by (k + 3))
  byte_in k (suc (suc (suc zero))) l = omega (arith, by k, by (k + 1), by (k + 2), by (k + 3))
  byte_in k (suc (suc (suc (suc m)))) l = absurd (omega arith)

  word_in : (r j : ℕ) → r < length s / 16 → j < 4 → word (words_at s r) j ≡ u32_at s (16 * r + 4 * j)
  unfolding word words_at
  word_in r zero l h = rw (lt-ltb r _ l) (ap (u32_at s) (omega arith))
  word_in r (suc zero) l h = rw (lt-ltb r _ l)
  word_in r (suc (suc zero)) l h = rw (lt-ltb r _ l)
  word_in r (suc (suc (suc zero))) l h = rw (lt-ltb r _ l)
  word_in r (suc (suc (suc (suc j)))) l h = absurd (omega arith)

  byte_back : (k : ℕ) → k / 16 < length s / 16 → byte_of (words_at s) k ≡ at s k
  unfolding byte_of
  byte_back k l =
      let e : 16 * (k / 16) + 4 * (k / 4 % 4) + k % 4 ≡ k = omega arith in
      rw (word_in (k / 16) (k / 4 % 4) l (omega arith))
      (byte_in (16 * (k / 16) + 4 * (k / 4 % 4)) (k % 4) (omega arith) ∙ ap (at s) e)

  -- rows that are those of some bytes have those bytes
  pub bytes_back : (f : ℕ → Words) (n : ℕ) → length s ≡ 16 * n → ((r : ℕ) → r < n → f r ≡ words_at s r) → bytes_of f n ≡ s
  unfolding bytes_of byte_of
  bytes_back f n e h =
      sym
      (list_to_is 0 (byte_of f) (16 * n) s e
      (λ k l. let q : f (k / 16) ≡ words_at s (k / 16) = h (k / 16) (omega arith) in sym (rw q (byte_back k (omega arith)))))

-- the bytes of rows are bytes
pub bytes_of_bytes : (f : ℕ → Words) (n k : ℕ) → k < 16 * n → at (bytes_of f n) k < 256
unfolding bytes_of byte_of
bytes_of_bytes f n k h = rw (get_d_list_to 0 (byte_of f) (16 * n) k h) (omega arith)
