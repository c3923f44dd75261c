-- Bytes filled from the front, a number and a row at a time. Assumes nothing.
use Prim.Native.Nat.{ℕ, ◌+◌, ◌*◌, ◌/◌, ◌%◌, ◌^◌, ◌<◌, ◌≤◌}
use native.Mathlib.Omega.{arith}
use mathlib.Core.Path.{◌≡◌, refl, sym, ◌∙◌}
use mathlib.Core.List.{List, [], ◌∷◌}
use lib.ListN.{length, get_or, set, length-set}
use native.Mathlib.Decide.{dec_lt}
use lib.Seq.{get_or-set_same, get_or-set_other}
use borrow.Rule.Slice.PartMut.{put_mid}
use Rattle.std.proofs.lemmas.List.{places, same_lists, get_or_default}
use Rattle.sums.specs.Lists.{at, Filled}
use Rattle.sums.proofs.Fill.{filled_more}
use Rattle.octets.specs.Bytes.{word, byte_of}
use Rattle.octets.specs.declared.Words.{Words}
use Rattle.octets.proofs.Trip.{byte_is}
use Rattle.writing.specs.Put.{put_number, put_row}

module _ (d : List ℕ) (f : ℕ → Words) (r : ℕ) where
  -- byte m of number j
  byte_more : (e : List ℕ) (j m k v : ℕ)
      → j < 4
      → m < 4
      → k ≡ 16 * r + 4 * j + m
      → k < length d
      → v ≡ word (f r) j / 256 ^ m % 256
      → Filled 0 d e k (byte_of f) → Filled 0 d (set e k v) (k + 1) (byte_of f)
  byte_more e j m k v hj hm q h w r =
      let l = r.long in
      filled_more 0 d e k v (byte_of f) (omega arith) (w ∙ sym (byte_is f _ j m k hj hm q)) r

  -- number j
  number_more : (e : List ℕ) (j k : ℕ) → j < 4 → k ≡ 16 * r + 4 * j → k + 4 ≤ length d
      → Filled 0 d e k (byte_of f) → Filled 0 d (put_number e k (word (f r) j)) (k + 4) (byte_of f)
  unfolding put_number
  number_more e j k hj q h g =
      let x = word (f r) j in
      let z : x % 256 ≡ x / 256 ^ 0 % 256 = omega arith in
      let e1 : k + 1 + 1 ≡ k + 2 = omega arith in
      let e2 : k + 2 + 1 ≡ k + 3 = omega arith in
      let e3 : k + 3 + 1 ≡ k + 4 = omega arith in
      rw e3 at (byte_more _ j 3 (k + 3) _ hj (omega arith) (omega arith) (omega arith) refl
      (rw e2 at (byte_more _ j 2 (k + 2) _ hj (omega arith) (omega arith) (omega arith) refl
      (rw e1 at (byte_more _ j 1 (k + 1) _ hj (omega arith) (omega arith) (omega arith) refl
      (byte_more e j 0 k _ hj (omega arith) (omega arith) (omega arith) z g))))))

  -- the row
  pub row_more : (e : List ℕ) → 16 * r + 16 ≤ length d
      → Filled 0 d e (16 * r) (byte_of f) → Filled 0 d (put_row e (16 * r) (f r)) (16 * (r + 1)) (byte_of f)
  unfolding put_row word
  row_more e h g =
      let a : 16 * r + 4 + 4 ≡ 16 * r + 8 = omega arith in
      let b : 16 * r + 8 + 4 ≡ 16 * r + 12 = omega arith in
      let c : 16 * r + 12 + 4 ≡ 16 * (r + 1) = omega arith in
      rw c at (number_more _ 3 (16 * r + 12) (omega arith) (omega arith) (omega arith)
      (rw b at (number_more _ 2 (16 * r + 8) (omega arith) (omega arith) (omega arith)
      (rw a at (number_more _ 1 (16 * r + 4) (omega arith) (omega arith) (omega arith)
      (number_more e 0 (16 * r) (omega arith) (omega arith) (omega arith) g))))))

-- four bytes copied over their part are the four put one by one
module _ (d : List ℕ) (k a b c e : ℕ) where
  -- the length is a variable, so that the list stays as it is written
  copied : (n : ℕ) → n ≡ 4 → k + n ≤ length d
      → (ys : List ℕ) → length ys ≡ n → at ys 0 ≡ a → at ys 1 ≡ b → at ys 2 ≡ c → at ys 3 ≡ e
      → put_mid k n d ys ≡ set (set (set (set d k a) (k + 1) b) (k + 2) c) (k + 3) e
  copied n q h ys l ea eb ec ee = same_lists _ _ (grind (arith, places, length-set)) (λ i z m. go i z m (dec_lt i k) (dec_lt i (k + n)))
    where
      go : (i z : ℕ) → i < length (put_mid k n d ys) → Dec (i < k) → Dec (i < k + n)
          → get_or (put_mid k n d ys) i z ≡ get_or (set (set (set (set d k a) (k + 1) b) (k + 2) c) (k + 3) e) i z
      go i z m (yes x) y = grind (arith, places, get_or-set_other)
      go i z m (no x) (yes y) = grind (arith, places, get_or-set_same, get_or-set_other, get_or_default, length-set)
      go i z m (no x) (no y) = grind (arith, places, get_or-set_other)

pub number_copied : (d : List ℕ) (k x : ℕ) → k + 4 ≤ length d
    → put_mid k 4 d (x % 256 ∷ x / 256 % 256 ∷ x / 65536 % 256 ∷ x / 16777216 % 256 ∷ []) ≡ put_number d k x
unfolding put_number
number_copied d k x h =
    copied d k (x % 256) (x / 256 % 256) (x / 65536 % 256) (x / 16777216 % 256) 4 refl h
    (x % 256 ∷ x / 256 % 256 ∷ x / 65536 % 256 ∷ x / 16777216 % 256 ∷ []) refl refl refl refl refl
