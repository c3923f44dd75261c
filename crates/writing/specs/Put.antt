-- How the code puts a row into bytes: the law `row_more` says that they are those of the page Words. Assumes nothing.
use Rattle.std.specs.Prelude.{ℕ, ◌+◌, ◌/◌, ◌%◌, List, set}
use Rattle.octets.specs.declared.Words.{Words}

-- a 32-bit number, least byte first, and a row of four, put into bytes at k
unfoldable pub put_number : List ℕ → ℕ → ℕ → List ℕ
put_number d k x =
    set (set (set (set d k (x % 256)) (k + 1) (x / 256 % 256)) (k + 2) (x / 65536 % 256)) (k + 3) (x / 16777216 % 256)

unfoldable pub put_row : List ℕ → ℕ → Words → List ℕ
put_row d k w =
    put_number (put_number (put_number (put_number d k w.first) (k + 4) w.second) (k + 8) w.third) (k + 12) w.fourth
