-- A field as a number: one decimal digit or more, and money with a sign before them or none. Leading zeros are read. Assumes nothing.
use Rattle.std.specs.Prelude.{ℕ, ◌+◌, ◌-◌, ◌*◌, Bool, true, cond, ◌&&◌, List, [], ◌∷◌, ℤ, pos, neg_ℤ, length, drop, leb, ltb, eqb}
use Rattle.std.specs.Prelude.{Result, Ok, Err}
use Rattle.sums.specs.Lists.{at}
use Rattle.text.specs.declared.Fault.{Fault}

-- `0` to `9`
abbrev pub is_digit : ℕ → Bool
is_digit b = leb 48 b && leb b 57

unfoldable pub all_digits : List ℕ → Bool
all_digits [] = true
all_digits (b ∷ bs) = is_digit b && all_digits bs

abbrev pub is_number : List ℕ → Bool
is_number l = ltb 0 (length l) && all_digits l

-- what the digits are worth behind others that are worth a
unfoldable pub worth : ℕ → List ℕ → ℕ
worth a [] = a
worth a (b ∷ bs) = worth (10 * a + (b - 48)) bs

-- a number of 32 bits, or why there is none
unfoldable pub parsed_as : (good : Bool) (value : ℕ) → Result ℕ Fault
parsed_as good value =
    cond good (cond (leb value 4294967295) (Ok value) (Err Fault.TooLarge))
    (Err Fault.NotANumber)

unfoldable pub parsed : List ℕ → Result ℕ Fault
parsed l = parsed_as (is_number l) (worth 0 l)

-- ---- money: a minus sign and a number, or a number, less than 10^18 in size
abbrev pub has_minus : List ℕ → Bool
has_minus l = eqb (at l 0) 45

abbrev pub unsigned : List ℕ → List ℕ
unsigned l = cond (has_minus l) (drop 1 l) l

unfoldable pub owed_as : (below good : Bool) (value : ℕ) → Result ℤ Fault
owed_as below good value =
    cond good
    (cond (ltb value 1000000000000000000) (Ok (cond below (neg_ℤ (pos value)) (pos value))) (Err Fault.TooLarge))
    (Err Fault.NotANumber)

unfoldable pub owed_in : List ℕ → Result ℤ Fault
owed_in l = owed_as (has_minus l) (is_number (unsigned l)) (worth 0 (unsigned l))
