-- Money that was written is read as it was: its sign is no digit, no separator and no line end, and its digits are worth its size.
-- Assumes nothing.
use Rattle.std.specs.Prelude.{Ok, None}
use Prim.Native.Nat.{ℕ, suc, ◌+◌, ◌^◌, ◌<◌, ◌≤◌}
use mathlib.Core.Path.{◌≡◌, refl, ap, sym, ◌∙◌}
use mathlib.Core.Bool.{Bool, true, false, cond}
use mathlib.Core.List.{List, [], ◌∷◌, ◌++◌, append_assoc, append-nil}
use native.Mathlib.Omega.{arith}
use borrow.Author.Tests.{lt-ltb, leb-true, ne_eqb}
use lib.Dec.{leb}
use lib.IntN.{ℤ, pos, negsuc, neg_ℤ, nat_abs}
use lib.ListN.{length}
use Rattle.sums.proofs.Tests.{and_left}
use Rattle.printing.specs.Text.{spell, decimal, minus, signed}
use Rattle.text.specs.Fields.{is_digit, all_digits, is_number, worth, has_minus, owed_as, owed_in}
use Rattle.text.specs.Lines.{separator, newline, cut, lines, over, step, empty_line, owing, read_line, line_fault}
use Rattle.text.specs.Written.{joined}
use Rattle.text.specs.declared.Line.{Line}
use Rattle.text.proofs.Back as back

abbrev bound : ℕ
bound = 1000000000000000000

-- ---- a field
no_minus : (l : List ℕ) → all_digits l ≡ true → has_minus l ≡ false
unfolding all_digits
no_minus [] e = refl
no_minus (b ∷ bs) e =
    let h : 48 ≤ b = leb-true 48 b (and_left (leb 48 b) (leb b 57) (and_left (is_digit b) (all_digits bs) e)) in
    ne_eqb b 45 (λ q. absurd (omega arith))

size_back : (below : Bool) (n : ℕ) → n < bound
    → owed_as below (is_number (decimal n [])) (worth 0 (decimal n [])) ≡ Ok (cond below (neg_ℤ (pos n)) (pos n))
unfolding owed_as all_digits worth
size_back below n h =
    let b : n < 10 ^ (19 + 1) = omega arith in
    let some = lt-ltb 0 (length (spell 19 n [])) (back.some_spell 19 n []) in
    rw (some, back.digits_spell 19 n [], back.worth_spell 19 n [] b, lt-ltb n bound h)

pub owed_back : (x : ℤ) → nat_abs x < bound → owed_in (signed x []) ≡ Ok x
unfolding owed_in signed minus all_digits
owed_back (pos n) h = rw (no_minus (decimal n []) (back.digits_spell 19 n [])) (size_back false n h)
owed_back (negsuc n) h = size_back true (suc n) h

-- ---- its bytes
signed_before : (x : ℤ) (xs ys : List ℕ) → signed x (xs ++ ys) ≡ signed x xs ++ ys
unfolding signed minus
signed_before (pos n) xs ys = back.spell_before 19 n xs ys
signed_before (negsuc n) xs ys = ap (λ (l : List ℕ). 45 ∷ l) (back.spell_before 19 (suc n) xs ys)

signed_free : (t : ℕ → Bool) → back.Plain t → t 45 ≡ false → (x : ℤ) → back.Free t (signed x [])
unfolding signed minus
signed_free t p m (pos n) = back.spell_free t p 19 n [] tt
signed_free t p m (negsuc n) = (m, back.spell_free t p 19 (suc n) [] tt)

signed_some : (x : ℤ) → 0 < length (signed x [])
unfolding signed minus
signed_some (pos n) = back.some_spell 19 n []
signed_some (negsuc n) = omega arith

-- ---- a line of a word, seven numbers and money
over_then : {S : Type 0} (g : S → List ℕ → S) (s : S) (xs ys : List (List ℕ)) → over g s (xs ++ ys) ≡ over g (over g s xs) ys
unfolding over
over_then g s [] ys = refl
over_then g s (x ∷ xs) ys = over_then g (g s x) xs ys

abbrev with_owed : Line → ℤ → Line
with_owed l x = record { count = l.count + 1; word = l.word; numbers = l.numbers; money = x; fault = None }

step_owed : (l : Line) (x : ℤ) → l.fault ≡ None → l.count ≡ 8 → nat_abs x < bound → step l (signed x []) ≡ with_owed l x
unfolding step owing
step_owed l x f e h =
    let s = signed_some x in
    rw (f, ne_eqb (length (signed x [])) 0 (λ q. absurd (omega arith)), e, owed_back x h)

abbrev pub owed_line : (word ns : List ℕ) → ℤ → Line
owed_line word ns x = with_owed (back.row_line word ns) x

pub owed_line_back : (word ns : List ℕ) (x : ℤ) → back.Known word → length ns ≡ 7 → back.AllFit ns → nat_abs x < bound
    → read_line (word ++ joined ns (32 ∷ signed x [])) ≡ owed_line word ns x
unfolding over read_line cut
owed_line_back word ns x k q a h =
    let y = signed x [] in
    let m = back.word_line word in
    let one : cut separator [] y ≡ y ∷ [] =
    ap (cut separator []) (sym (append-nil y))
    ∙ back.cut_free separator [] y [] (signed_free separator back.plain_separator refl x) in
    rw (k.plain (joined ns (32 ∷ y)))
    (ap (over step empty_line) (back.row_fields word ns (32 ∷ y) (y ∷ []) k.apart (λ g. ap (λ (r : List (List ℕ)). g ∷ r) one))
    ∙ ap (λ (l : Line). over step l (back.texts ns ++ (y ∷ []))) (back.first_word word k)
    ∙ over_then step m (back.texts ns) (y ∷ [])
    ∙ ap (λ (l : Line). step l y) (back.numbers_back m ns refl (omega arith) (omega arith) a)
    ∙ step_owed (back.with_all m ns) x refl (omega (arith, q)) h)

-- which is right by itself where eight are wanted
pub owed_right : (word ns : List ℕ) (x : ℤ) → length ns ≡ 7 → line_fault true 8 (owed_line word ns x) ≡ None
unfolding line_fault
owed_right word ns x e = rw e

-- it stands in front of a text as a line in front of its lines
pub owed_first : (word ns rest : List ℕ) (x : ℤ) → back.Known word
    → lines (word ++ joined ns (32 ∷ signed x (10 ∷ rest))) ≡ (word ++ joined ns (32 ∷ signed x [])) ∷ lines rest
unfolding cut
owed_first word ns rest x k =
    let z : List ℕ = 32 ∷ signed x [] in
    let free : back.Free newline z = (refl, signed_free newline back.plain_newline refl x) in
    ap (λ (l : List ℕ). lines (word ++ joined ns (32 ∷ l))) (signed_before x [] (10 ∷ rest))
    ∙ ap (λ (l : List ℕ). lines (word ++ l)) (back.joined_before ns z (10 ∷ rest))
    ∙ ap lines (sym (append_assoc word (joined ns z) (10 ∷ rest)))
    ∙ back.cut_free newline [] (word ++ joined ns z) (10 ∷ rest)
    (back.append_free newline word (joined ns z) k.one (back.joined_free ns z free))
