-- Reading what was written. The digits of a number are worth the number; no digit is a separator or a line end, so that a row is
-- one line, and its fields are its word and its numbers. Assumes nothing.
use Rattle.std.specs.Prelude.{Option, Ok, None}
use Prim.Native.Nat.{ℕ, zero, suc, ◌+◌, ◌-◌, ◌*◌, ◌/◌, ◌%◌, ◌^◌, ◌<◌, ◌≤◌}
use mathlib.Core.Path.{◌≡◌, refl, ap, ap₂, sym, ◌∙◌}
use mathlib.Core.Bool.{Bool, true, false, cond}
use mathlib.Core.List.{List, [], ◌∷◌, ◌++◌, append_assoc, append-nil, map}
use native.Mathlib.Omega.{arith}
use native.Mathlib.Decide.{dec_lt}
use borrow.Author.Tests.{lt-ltb, le-ltb, le-leb, ne_eqb}
use lib.Dec.{ltb, eqb}
use lib.IntN.{pos}
use lib.ListN.{length, set}
use lib.Seq.{sets}
use Rattle.sums.specs.Lists.{at}
use Rattle.printing.specs.Text.{spell, decimal}
use Rattle.printing.proofs.Digits.{tenth}
use Rattle.text.specs.Fields.{is_digit, all_digits, worth, parsed_as, parsed}
use Rattle.text.specs.Lines.{separator, newline, cut, lines, pieces, over, step, empty_line, named, numbered}
use Rattle.text.specs.Lines.{agent_word, boundary_word, plant_word, contract_word, price_word, word_of, read_line, line_fault}
use Rattle.text.specs.Written.{joined, row_text}
use Rattle.text.specs.declared.Fault.{Fault}
use Rattle.text.specs.declared.Line.{Line}

-- ---- a number
pub worth_spell : (k n : ℕ) (rest : List ℕ) → n < 10 ^ (k + 1) → worth 0 (spell k n rest) ≡ worth n rest
unfolding spell worth
worth_spell zero n rest h = let e : 10 * 0 + (48 + n % 10 - 48) ≡ n = omega arith in ap (λ a. worth a rest) e
worth_spell (suc k) n rest h = go (dec_lt n 10) (λ l. worth_spell k (n / 10) ((48 + n % 10) ∷ rest) (tenth k n h))
  where
    go : Dec (n < 10) → (10 ≤ n → worth 0 (spell k (n / 10) ((48 + n % 10) ∷ rest)) ≡ worth (n / 10) ((48 + n % 10) ∷ rest))
        → worth 0 (spell (suc k) n rest) ≡ worth n rest
    go (yes l) r = let e : 10 * 0 + (48 + n % 10 - 48) ≡ n = omega arith in rw (lt-ltb n 10 l) (ap (λ a. worth a rest) e)
    go (no l) r =
        let m : 10 ≤ n = omega arith in
        let e : 10 * (n / 10) + (48 + n % 10 - 48) ≡ n = omega arith in
        rw (le-ltb n 10 m) (r m ∙ ap (λ a. worth a rest) e)

digit_is : (n : ℕ) → is_digit (48 + n % 10) ≡ true
digit_is n =
    let l : 48 ≤ 48 + n % 10 = omega arith in
    let h : 48 + n % 10 ≤ 57 = omega arith in
    rw (le-leb 48 (48 + n % 10) l, le-leb (48 + n % 10) 57 h)

pub digits_spell : (k n : ℕ) (rest : List ℕ) → all_digits (spell k n rest) ≡ all_digits rest
unfolding spell all_digits
digits_spell zero n rest = rw (digit_is n)
digits_spell (suc k) n rest = go (ltb n 10) (digits_spell k (n / 10) ((48 + n % 10) ∷ rest))
  where
    go : (t : Bool) → all_digits (spell k (n / 10) ((48 + n % 10) ∷ rest)) ≡ all_digits ((48 + n % 10) ∷ rest)
        → all_digits (cond t ((48 + n % 10) ∷ rest) (spell k (n / 10) ((48 + n % 10) ∷ rest))) ≡ all_digits rest
    go true r = rw (digit_is n)
    go false r = r ∙ (rw (digit_is n))

pub some_spell : (k n : ℕ) (rest : List ℕ) → 0 < length (spell k n rest)
unfolding spell
some_spell zero n rest = omega arith
some_spell (suc k) n rest = go (ltb n 10) (some_spell k (n / 10) ((48 + n % 10) ∷ rest))
  where
    go : (t : Bool) → 0 < length (spell k (n / 10) ((48 + n % 10) ∷ rest))
        → 0 < length (cond t ((48 + n % 10) ∷ rest) (spell k (n / 10) ((48 + n % 10) ∷ rest)))
    go true r = omega arith
    go false r = r

-- a number of 32 bits, printed and read
pub number_back : (n : ℕ) → n < 2 ^ 32 → parsed (decimal n []) ≡ Ok n
unfolding parsed parsed_as all_digits worth
number_back n h =
    let b : n < 10 ^ (19 + 1) = omega arith in
    let l : n ≤ 4294967295 = omega arith in
    rw (lt-ltb 0 (length (spell 19 n [])) (some_spell 19 n []), digits_spell 19 n [], worth_spell 19 n [] b, le-leb n 4294967295 l)

-- ---- the test holds at none of the bytes
abbrev pub Free : (ℕ → Bool) → List ℕ → Type 0
Free t [] = Unit {0}
Free t (b ∷ bs) = (t b ≡ false) × Free t bs

pub cut_free : (t : ℕ → Bool) (f xs rest : List ℕ) → Free t xs → cut t f (xs ++ rest) ≡ cut t (f ++ xs) rest
unfolding cut
cut_free t f [] rest h = ap (λ (g : List ℕ). cut t g rest) (sym (append-nil f))
cut_free t f (b ∷ bs) rest h =
    rw h.0
    (cut_free t (f ++ (b ∷ [])) bs rest h.1 ∙ ap (λ (g : List ℕ). cut t g rest) (append_assoc f (b ∷ []) bs))

pub spell_before : (k n : ℕ) (xs ys : List ℕ) → spell k n (xs ++ ys) ≡ spell k n xs ++ ys
unfolding spell
spell_before zero n xs ys = refl
spell_before (suc k) n xs ys = go (ltb n 10) (spell_before k (n / 10) ((48 + n % 10) ∷ xs) ys)
  where
    go : (t : Bool) → spell k (n / 10) ((48 + n % 10) ∷ (xs ++ ys)) ≡ spell k (n / 10) ((48 + n % 10) ∷ xs) ++ ys
        → cond t ((48 + n % 10) ∷ (xs ++ ys)) (spell k (n / 10) ((48 + n % 10) ∷ (xs ++ ys)))
        ≡ cond t ((48 + n % 10) ∷ xs) (spell k (n / 10) ((48 + n % 10) ∷ xs)) ++ ys
    go true r = refl
    go false r = r

-- at no digit
abbrev pub Plain : (ℕ → Bool) → Type 0
Plain t = (n : ℕ) → t (48 + n % 10) ≡ false

pub plain_separator : Plain separator
plain_separator n =
    rw (
      ne_eqb (48 + n % 10) 32 (λ e. absurd (omega arith)),
      ne_eqb (48 + n % 10) 9 (λ e. absurd (omega arith)),
      ne_eqb (48 + n % 10) 44 (λ e. absurd (omega arith)),
      ne_eqb (48 + n % 10) 59 (λ e. absurd (omega arith)),
      ne_eqb (48 + n % 10) 13 (λ e. absurd (omega arith)),
    )

pub plain_newline : Plain newline
plain_newline n = ne_eqb (48 + n % 10) 10 (λ e. absurd (omega arith))

pub spell_free : (t : ℕ → Bool) → Plain t → (k n : ℕ) (rest : List ℕ) → Free t rest → Free t (spell k n rest)
unfolding spell
spell_free t p zero n rest h = (p n, h)
spell_free t p (suc k) n rest h = go (ltb n 10) (spell_free t p k (n / 10) ((48 + n % 10) ∷ rest) (p n, h))
  where
    go : (u : Bool) → Free t (spell k (n / 10) ((48 + n % 10) ∷ rest))
        → Free t (cond u ((48 + n % 10) ∷ rest) (spell k (n / 10) ((48 + n % 10) ∷ rest)))
    go true r = (p n, h)
    go false r = r

-- ---- the fields of a written row
abbrev pub texts : List ℕ → List (List ℕ)
texts ns = map (λ n. decimal n []) ns

-- what follows ends the stretch before it, and then has these
abbrev pub Follow : (rest : List ℕ) → (more : List (List ℕ)) → Type 0
Follow rest more = (g : List ℕ) → cut separator g rest ≡ g ∷ more

cut_joined : (f ns rest : List ℕ) (more : List (List ℕ)) → Follow rest more → cut separator f (joined ns rest) ≡ f ∷ (texts ns ++ more)
unfolding cut joined
cut_joined f [] rest more h = h f
cut_joined f (n ∷ ns) rest more h = ap (λ (r : List (List ℕ)). f ∷ r) (
    ap (cut separator []) (spell_before 19 n [] (joined ns rest))
    ∙ cut_free separator [] (decimal n []) (joined ns rest) (spell_free separator plain_separator 19 n [] tt)
    ∙ cut_joined (decimal n []) ns rest more h
    )

pub row_fields : (word ns rest : List ℕ) (more : List (List ℕ)) → Free separator word → Follow rest more
    → pieces (word ++ joined ns rest) ≡ word ∷ (texts ns ++ more)
row_fields word ns rest more h k = cut_free separator [] word (joined ns rest) h ∙ cut_joined word ns rest more k

abbrev pub AllFit : List ℕ → Type 0
AllFit [] = Unit {0}
AllFit (n ∷ ns) = (n < 2 ^ 32) × AllFit ns

abbrev with_one : Line → ℕ → Line
with_one l n =
    record { count = l.count + 1; word = l.word; numbers = set l.numbers (l.count - 1) n; money = l.money; fault = None }

-- and with all of them
abbrev pub with_all : Line → List ℕ → Line
with_all l ns =
    record {
      count = l.count + length ns;
      word = l.word;
      numbers = sets l.numbers (l.count - 1) ns;
      money = l.money;
      fault = None;
    }

step_number : (l : Line) (n : ℕ) → l.fault ≡ None → 1 ≤ l.count → l.count < 8 → n < 2 ^ 32
    → step l (decimal n []) ≡ with_one l n
unfolding step numbered
step_number l n f p q h =
    let s : 0 < length (decimal n []) = some_spell 19 n [] in
    rw (
      f,
      ne_eqb (length (decimal n [])) 0 (λ e. absurd (omega arith)),
      ne_eqb l.count 0 (λ e. absurd (omega arith)),
      lt-ltb l.count 8 q,
      number_back n h,
    )

pub numbers_back : (l : Line) (ns : List ℕ) → l.fault ≡ None → 1 ≤ l.count → l.count + length ns ≤ 8 → AllFit ns
    → over step l (texts ns)
    ≡ with_all l ns
unfolding over
numbers_back l [] f p q h =
    let e : l.count + 0 ≡ l.count = omega arith in
    rw e (ap (λ (x : Option Fault). record { count = l.count; word = l.word; numbers = l.numbers; money = l.money; fault = x }) f)
numbers_back l (n ∷ ns) f p q h =
    let a : l.count + 1 + length ns ≡ l.count + suc (length ns) = omega arith in
    let b : l.count + 1 - 1 ≡ suc (l.count - 1) = omega arith in
    ap (λ (x : Line). over step x (texts ns)) (step_number l n f p (omega arith) h.0)
    ∙ numbers_back (with_one l n) ns refl (omega arith) (omega arith) h.1
    ∙ ap₂ (λ (x y : ℕ). with_all x (sets (set l.numbers (l.count - 1) n) y ns)) a b
  where
    with_all : ℕ → List ℕ → Line
    with_all x ns = record { count = x; word = l.word; numbers = ns; money = l.money; fault = None }

-- a word that begins a line: known, and no separator, line end or `#` in front
pub record Known (word : List ℕ) : Type 0 where
  pub apart : Free separator word
  pub one : Free newline word
  pub some : 0 < length word
  pub known : 0 < word_of word
  pub plain : (ns : List ℕ) → eqb (at (word ++ ns) 0) 35 ≡ false

-- a line of this word alone
abbrev pub word_line : List ℕ → Line
word_line word = record { count = 1; word = word_of word; numbers = empty_line.numbers; money = pos 0; fault = None }

pub first_word : (word : List ℕ) → Known word → step empty_line word ≡ word_line word
unfolding step named
first_word word k =
    let s = k.some in
    let w = k.known in
    rw (ne_eqb (length word) 0 (λ e. absurd (omega arith)), ne_eqb (word_of word) 0 (λ e. absurd (omega arith)))

-- what a line of this word and up to seven numbers of 32 bits is read as
abbrev pub row_line : (word ns : List ℕ) → Line
row_line word ns =
    record { count = 1 + length ns; word = word_of word; numbers = sets empty_line.numbers 0 ns; money = pos 0; fault = None }

pub line_back : (word ns : List ℕ) → Known word → length ns ≤ 7 → AllFit ns → read_line (word ++ joined ns []) ≡ row_line word ns
unfolding over read_line cut
line_back word ns k q a =
    rw (k.plain (joined ns []))
    (ap (over step empty_line) (row_fields word ns [] [] k.apart (λ g. refl))
    ∙ ap₂ (over step) (first_word word k) (append-nil (texts ns))
    ∙ numbers_back (word_line word) ns refl (omega arith) (omega arith) a)

-- which is right by itself where the word wants so many
pub line_right : (word ns : List ℕ) (n : ℕ) → length ns ≡ n → line_fault true n (row_line word ns) ≡ None
unfolding line_fault
line_right word ns n e =
    rw (
      ne_eqb (1 + length ns) 0 (λ q. absurd (omega arith)),
      le-ltb (1 + length ns - 1) n (omega (arith, e)),
      le-ltb n (1 + length ns - 1) (omega (arith, e)),
    )

-- ---- the lines of a written text
pub joined_free : (ns rest : List ℕ) → Free newline rest → Free newline (joined ns rest)
unfolding joined
joined_free [] rest h = h
joined_free (n ∷ ns) rest h = (refl, spell_free newline plain_newline 19 n (joined ns rest) (joined_free ns rest h))

pub append_free : (t : ℕ → Bool) (xs ys : List ℕ) → Free t xs → Free t ys → Free t (xs ++ ys)
append_free t [] ys h k = k
append_free t (x ∷ xs) ys h k = (h.0, append_free t xs ys h.1 k)

pub joined_before : (ns xs ys : List ℕ) → joined ns (xs ++ ys) ≡ joined ns xs ++ ys
unfolding joined
joined_before [] xs ys = refl
joined_before (n ∷ ns) xs ys = ap (λ (l : List ℕ). 32 ∷ l) (ap (decimal n) (joined_before ns xs ys) ∙ spell_before 19 n (joined ns xs) ys)

-- a row in front of a text is a line in front of its lines
pub row_first : (word ns rest : List ℕ) → Known word → lines (row_text word ns rest) ≡ (word ++ joined ns []) ∷ lines rest
unfolding cut row_text
row_first word ns rest k =
    ap (λ (l : List ℕ). lines (word ++ l)) (joined_before ns [] (10 ∷ rest))
    ∙ ap lines (sym (append_assoc word (joined ns []) (10 ∷ rest)))
    ∙ cut_free newline [] (word ++ joined ns []) (10 ∷ rest) (append_free newline word (joined ns []) k.one (joined_free ns [] tt))

-- ---- the words of sheets and statements
pub agent_known : Known agent_word
unfolding word_of
agent_known =
    record {
      apart = (refl, (refl, (refl, (refl, (refl, tt)))));
      one = (refl, (refl, (refl, (refl, (refl, tt)))));
      some = omega arith;
      known = omega arith;
      plain = λ ns. refl;
    }

pub boundary_known : Known boundary_word
unfolding word_of
boundary_known =
    record {
      apart = (refl, (refl, (refl, (refl, (refl, (refl, (refl, (refl, tt))))))));
      one = (refl, (refl, (refl, (refl, (refl, (refl, (refl, (refl, tt))))))));
      some = omega arith;
      known = omega arith;
      plain = λ ns. refl;
    }

pub plant_known : Known plant_word
unfolding word_of
plant_known =
    record {
      apart = (refl, (refl, (refl, (refl, (refl, tt)))));
      one = (refl, (refl, (refl, (refl, (refl, tt)))));
      some = omega arith;
      known = omega arith;
      plain = λ ns. refl;
    }

pub price_known : Known price_word
unfolding word_of
price_known =
    record {
      apart = (refl, (refl, (refl, (refl, (refl, tt)))));
      one = (refl, (refl, (refl, (refl, (refl, tt)))));
      some = omega arith;
      known = omega arith;
      plain = λ ns. refl;
    }

pub contract_known : Known contract_word
unfolding word_of
contract_known =
    record {
      apart = (refl, (refl, (refl, (refl, (refl, (refl, (refl, (refl, tt))))))));
      one = (refl, (refl, (refl, (refl, (refl, (refl, (refl, (refl, tt))))))));
      some = omega arith;
      known = omega arith;
      plain = λ ns. refl;
    }
