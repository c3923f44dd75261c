-- Numbers as text, each with what follows it. Assumes nothing.
use Rattle.std.specs.Prelude.{ℕ, zero, suc, ◌+◌, ◌/◌, ◌%◌, Bool, true, false, cond, List, [], ◌∷◌, ℤ, pos, negsuc, nat_abs, ltb}

-- n in decimal, at most k + 1 digits, then what follows
unfoldable pub spell : ℕ → ℕ → List ℕ → List ℕ
spell zero n rest = (48 + n % 10) ∷ rest
spell (suc k) n rest = cond (ltb n 10) ((48 + n % 10) ∷ rest) (spell k (n / 10) ((48 + n % 10) ∷ rest))

-- a number of up to 64 bits, as the kit's `io::decimal` prints it (proofs/Digits.antt)
abbrev pub decimal : ℕ → List ℕ → List ℕ
decimal n rest = spell 19 n rest

unfoldable pub minus : ℤ → Bool
minus (pos n) = false
minus (negsuc n) = true

-- a minus sign stands before what is below 0
unfoldable pub signed : ℤ → List ℕ → List ℕ
signed x rest = cond (minus x) (45 ∷ decimal (nat_abs x) rest) (decimal (nat_abs x) rest)

-- each number with a space behind it
unfoldable pub spaced : List ℕ → List ℕ → List ℕ
spaced [] rest = rest
spaced (n ∷ ns) rest = decimal n (32 ∷ spaced ns rest)

-- lines 0 to n - 1
unfoldable pub lines_to : (ℕ → List ℕ → List ℕ) → ℕ → List ℕ → List ℕ
lines_to line zero rest = rest
lines_to line (suc n) rest = lines_to line n (line n rest)
