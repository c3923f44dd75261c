-- The words behind a program's name: whether two are the same, and the number that one spells. Assumes nothing.
use Rattle.std.specs.Prelude.{ℕ, zero, suc, ◌+◌, ◌-◌, ◌*◌, Bool, true, cond, ◌&&◌, List, length, ltb, eqb, Option, Some, None}
use Rattle.sums.specs.Lists.{at}

-- equal byte by byte, of the first k
unfoldable pub same_to : (a b : List ℕ) → ℕ → Bool
same_to a b zero = true
same_to a b (suc k) = same_to a b k && eqb (at a k) (at b k)

unfoldable pub same_word : List ℕ → List ℕ → Bool
same_word a b = eqb (length a) (length b) && same_to a b (length a)

-- a number with one digit more; none where the byte is not one of `0` to `9`, or nine digits stand already
unfoldable pub with_digit : Option ℕ → ℕ → Option ℕ
with_digit None b = None
with_digit (Some v) b =
    cond (ltb b 48) None (cond (ltb 57 b) None (cond (ltb 99999999 v) None (Some (10 * v + (b - 48)))))

unfoldable pub spelled_to : List ℕ → ℕ → Option ℕ
spelled_to w zero = Some 0
spelled_to w (suc k) = with_digit (spelled_to w k) (at w k)

-- the number that a word of digits spells, below 1,000,000,000; a word with no byte spells none
unfoldable pub spelled_in : List ℕ → Option ℕ
spelled_in w = cond (eqb (length w) 0) None (spelled_to w (length w))
