-- Document 01, 'The hour sheet': all numbers little-endian, every row 16 bytes. A sheet is rows of four 32-bit numbers, its trailer
-- two rows more. Assumes nothing.
use Rattle.std.specs.Prelude.{ℕ, ◌+◌, ◌*◌, ◌/◌, ◌%◌, ◌^◌, cond, List, length, ltb, eqb}
use Rattle.sums.specs.Lists.{at, list_to}
use Rattle.octets.specs.declared.Words.{Words}

-- the 32-bit number at byte k
unfoldable pub u32_at : List ℕ → ℕ → ℕ
u32_at s k = at s k + 256 * at s (k + 1) + 65536 * at s (k + 2) + 16777216 * at s (k + 3)

abbrev pub words_of : (first second third fourth : ℕ) → Words
words_of a b c d = record { first = a; second = b; third = c; fourth = d }

-- row r of the bytes; zeros past the last whole row
unfoldable pub words_at : List ℕ → ℕ → Words
words_at s r =
    cond (ltb r (length s / 16))
    (words_of (u32_at s (16 * r)) (u32_at s (16 * r + 4)) (u32_at s (16 * r + 8)) (u32_at s (16 * r + 12)))
    (words_of 0 0 0 0)

-- number j of a row, from 0
unfoldable pub word : Words → ℕ → ℕ
word w j = cond (eqb j 0) w.first (cond (eqb j 1) w.second (cond (eqb j 2) w.third w.fourth))

-- byte k of a sheet whose row r is f r
unfoldable pub byte_of : (ℕ → Words) → ℕ → ℕ
byte_of f k = word (f (k / 16)) (k / 4 % 4) / 256 ^ (k % 4) % 256

-- the bytes of n rows
unfoldable pub bytes_of : (ℕ → Words) → ℕ → List ℕ
bytes_of f n = list_to (byte_of f) (16 * n)
