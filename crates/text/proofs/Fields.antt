-- Laws of numbers as they are read: a value that is held at a bound on the way is held at it in the end, so the code need not know
-- how long a field is. Assumes nothing.
use Rattle.std.specs.Prelude.{Result, Ok, Err, Some, None}
use Prim.Native.Nat.{ℕ, ◌+◌, ◌-◌, ◌*◌, ◌<◌, ◌≤◌, min}
use mathlib.Core.Path.{◌≡◌, refl, ap, sym, ◌∙◌}
use mathlib.Core.Bool.{Bool, true, false, cond, ◌&&◌}
use mathlib.Core.List.{List, [], ◌∷◌}
use native.Mathlib.Omega.{arith}
use native.Mathlib.Decide.{dec_lt}
use borrow.Author.Tests.{lt-ltb, lt-leb, le-ltb}
use Rattle.std.specs.Cmp.Lexicographic.{pointwise}
use lib.Dec.{leb, ltb, eqb}
use lib.IntN.{ℤ, pos, neg_ℤ}
use lib.ListN.{length, take, drop, drop_of_length-le}
use Rattle.sums.specs.Lists.{at}
use Rattle.text.specs.declared.Fault.{Fault}
use Rattle.text.specs.Fields.{is_digit, all_digits, is_number, worth, parsed_as, has_minus, unsigned, owed_as, owed_in}
use Rattle.text.proofs.Lines.{next}

abbrev pub bound : ℕ
bound = 1000000000000000000

-- held at the start or not, the number is the same, held at the end
worth_held : (a c : ℕ) (l : List ℕ) → min a bound ≡ min c bound → min (worth a l) bound ≡ min (worth c l) bound
unfolding worth
worth_held a c [] e = e
worth_held a c (b ∷ bs) e = worth_held (10 * a + (b - 48)) (10 * c + (b - 48)) bs (omega arith)

worth_next : (a i : ℕ) (l : List ℕ) → i < length l → worth a (drop i l) ≡ worth (10 * a + (at l i - 48)) (drop (i + 1) l)
unfolding worth
worth_next a i l h = ap (worth a) (next l i h)

digits_next : (i : ℕ) (l : List ℕ) → i < length l → all_digits (drop i l) ≡ (is_digit (at l i) && all_digits (drop (i + 1) l))
unfolding all_digits
digits_next i l h = ap all_digits (next l i h)

-- one byte more: no digit, and the field is no number; or a digit
pub no_digit : (s : List ℕ) (i : ℕ) → i < length s → is_digit (at s i) ≡ false → all_digits (drop i s) ≡ all_digits s
    → is_number s ≡ false
no_digit s i h d e =
    let f : all_digits s ≡ false = sym e ∙ digits_next i s h ∙ (rw d) in
    rw f (and_false (ltb 0 (length s)))
  where
    and_false : (t : Bool) → (t && false) ≡ false
    and_false true = refl
    and_false false = refl

pub digits_step : (s : List ℕ) (i : ℕ) (t : Bool) → i < length s → is_digit (at s i) ≡ true → all_digits (drop i s) ≡ t
    → all_digits (drop (i + 1) s) ≡ t
digits_step s i t h d e = (rw d at (sym (digits_next i s h))) ∙ e

pub worth_step : (s : List ℕ) (i v t : ℕ) → i < length s → min (worth v (drop i s)) bound ≡ t
    → min (worth (min (10 * v + (at s i - 48)) bound) (drop (i + 1) s)) bound ≡ t
worth_step s i v t h e =
    let n = 10 * v + (at s i - 48) in
    worth_held (min n bound) n (drop (i + 1) s) (omega arith)
    ∙ ap (λ (u : ℕ). min u bound) (sym (worth_next v i s h))
    ∙ e

-- all bytes are read
pub digits_end : (s : List ℕ) (i : ℕ) → 0 < length s → length s ≤ i → all_digits (drop i s) ≡ all_digits s → is_number s ≡ true
unfolding all_digits
digits_end s i p l e =
    let a : all_digits s ≡ true = sym e ∙ ap all_digits (drop_of_length-le s l) in
    rw (lt-ltb 0 (length s) p, a)

pub worth_end : (s : List ℕ) (i v t : ℕ) → length s ≤ i → v ≤ bound → min (worth v (drop i s)) bound ≡ t → v ≡ t
unfolding worth
worth_end s i v t l h e =
    let q : min v bound ≡ t = ap (λ (r : List ℕ). min (worth v r) bound) (sym (drop_of_length-le s l)) ∙ e in
    omega arith

-- the test of 32 bits tells a held number as it tells the number
pub parsed_held : (g : Bool) (n : ℕ) → parsed_as g (min n bound) ≡ parsed_as g n
unfolding parsed_as
parsed_held false n = refl
parsed_held true n = go (dec_lt n bound)
  where
    pick_one : ℕ → Result ℕ Fault
    pick_one k = cond (leb k 4294967295) (Ok k) (Err Fault.TooLarge)

    go : Dec (n < bound) → pick_one (min n bound) ≡ pick_one n
    go (yes l) = let i : min n bound ≡ n = omega arith in ap pick_one i
    go (no l) =
        let x : 4294967295 < min n bound = omega arith in
        let y : 4294967295 < n = omega arith in
        rw (lt-leb (min n bound) 4294967295 x, lt-leb n 4294967295 y)

-- ---- money: so does the test of its size
owed_held : (b g : Bool) (n : ℕ) → owed_as b g (min n bound) ≡ owed_as b g n
unfolding owed_as
owed_held b false n = refl
owed_held b true n = go (dec_lt n bound)
  where
    pick_one : ℕ → Result ℤ Fault
    pick_one k = cond (ltb k bound) (Ok (cond b (neg_ℤ (pos k)) (pos k))) (Err Fault.TooLarge)

    go : Dec (n < bound) → pick_one (min n bound) ≡ pick_one n
    go (yes l) = let i : min n bound ≡ n = omega arith in ap pick_one i
    go (no l) =
        let x : bound ≤ min n bound = omega arith in
        let y : bound ≤ n = omega arith in
        rw (le-ltb (min n bound) bound x, le-ltb n bound y)

-- where digits are read, there is a number or none
pub no_money : (below g : Bool) (n : ℕ) → None ≡ cond g (Some (min n bound)) None → owed_as below g n ≡ Err Fault.NotANumber
unfolding owed_as
no_money below true n e = cc
no_money below false n e = refl

pub some_money : (below g : Bool) (n v : ℕ) → Some v ≡ cond g (Some (min n bound)) None → owed_as below g n ≡ owed_as below true v
some_money below true n v e = let i : v ≡ min n bound = cc in rw i (sym (owed_held below true n))
some_money below false n v e = cc

-- the number is of what is behind the sign
pub owed_parts : (s part : List ℕ) (below : Bool) → has_minus s ≡ below → part ≡ unsigned s
    → owed_as below (is_number part) (worth 0 part) ≡ owed_in s
unfolding owed_in
owed_parts s part below m p = rw (p, m)

-- the test of a sign in front
and_true : (t : Bool) → (t && true) ≡ t
and_true true = refl
and_true false = refl

pub minus_ahead : (s : List ℕ) → pointwise eqb (take 1 s) (45 ∷ []) ≡ has_minus s
minus_ahead [] = refl
minus_ahead (b ∷ bs) = and_true (eqb b 45)
