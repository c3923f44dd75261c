-- A text as its lines, a line as its fields, and a line as a word with numbers behind it. Every string of bytes is a text.
-- Assumes nothing.
use Rattle.std.specs.Prelude.{ℕ, ◌+◌, ◌-◌, Bool, cond, ◌||◌, List, [], ◌∷◌, ◌++◌, ℤ, pos, length, set, ltb, eqb}
use Rattle.std.specs.Prelude.{Option, Some, None, is_some, Result, Ok, Err}
use Rattle.std.specs.Str.{bytes_eq}
use Rattle.sums.specs.Lists.{at}
use Rattle.text.specs.Fields.{parsed, owed_in}
use Rattle.text.specs.declared.Fault.{Fault}
use Rattle.text.specs.declared.Line.{Line}

-- lines are apart by LF
abbrev pub newline : ℕ → Bool
newline b = eqb b 10

-- fields by a space, tab, comma or semicolon, or the carriage return of a line that ends in CR LF
abbrev pub separator : ℕ → Bool
separator b = eqb b 32 || eqb b 9 || eqb b 44 || eqb b 59 || eqb b 13

-- the stretches between the bytes at which the test holds; f is the stretch so far
unfoldable pub cut : (ℕ → Bool) → (f bytes : List ℕ) → List (List ℕ)
cut t f [] = f ∷ []
cut t f (b ∷ bs) = cond (t b) (f ∷ cut t [] bs) (cut t (f ++ (b ∷ [])) bs)

abbrev pub lines : List ℕ → List (List ℕ)
lines text = cut newline [] text

abbrev pub pieces : List ℕ → List (List ℕ)
pieces line = cut separator [] line

-- g on one after the other
unfoldable pub over : {S : Type 0} → (S → List ℕ → S) → S → List (List ℕ) → S
over g s [] = s
over g s (x ∷ xs) = over g (g s x) xs

-- ---- words
-- `agent`, `boundary`, `plant`, `contract`, `price`
abbrev pub agent_word : List ℕ
agent_word = 97 ∷ 103 ∷ 101 ∷ 110 ∷ 116 ∷ []

abbrev pub boundary_word : List ℕ
boundary_word = 98 ∷ 111 ∷ 117 ∷ 110 ∷ 100 ∷ 97 ∷ 114 ∷ 121 ∷ []

abbrev pub plant_word : List ℕ
plant_word = 112 ∷ 108 ∷ 97 ∷ 110 ∷ 116 ∷ []

abbrev pub contract_word : List ℕ
contract_word = 99 ∷ 111 ∷ 110 ∷ 116 ∷ 114 ∷ 97 ∷ 99 ∷ 116 ∷ []

abbrev pub price_word : List ℕ
price_word = 112 ∷ 114 ∷ 105 ∷ 99 ∷ 101 ∷ []

-- the word's number: its section's, 5 for the price, 0 for any other
abbrev pub word_by : (agent boundary plant contract price : Bool) → ℕ
word_by a b p c x = cond a 1 (cond b 2 (cond p 3 (cond c 4 (cond x 5 0))))

unfoldable pub word_of : List ℕ → ℕ
word_of f =
    word_by (bytes_eq f agent_word) (bytes_eq f boundary_word) (bytes_eq f plant_word) (bytes_eq f contract_word)
    (bytes_eq f price_word)

-- ---- a line: how many fields it has, its word, the first seven numbers behind it, the eighth as money, and what is wrong. No word: 0
abbrev pub empty_line : Line
empty_line = record { count = 0; word = 0; numbers = 0 ∷ 0 ∷ 0 ∷ 0 ∷ 0 ∷ 0 ∷ 0 ∷ []; money = pos 0; fault = None }

unfoldable pub named : Line → (word : ℕ) → Line
named l w =
    record {
      count = 1;
      word = w;
      numbers = l.numbers;
      money = l.money;
      fault = cond (eqb w 0) (Some Fault.Word) None;
    }

unfoldable pub numbered : Line → Result ℕ Fault → Line
numbered l (Ok v) =
    record { count = l.count + 1; word = l.word; numbers = set l.numbers (l.count - 1) v; money = l.money; fault = None }
numbered l (Err f) =
    record { count = l.count + 1; word = l.word; numbers = l.numbers; money = l.money; fault = Some f }

unfoldable pub owing : Line → Result ℤ Fault → Line
owing l (Ok x) = record { count = l.count + 1; word = l.word; numbers = l.numbers; money = x; fault = None }
owing l (Err f) = record { count = l.count + 1; word = l.word; numbers = l.numbers; money = l.money; fault = Some f }

-- a field behind the money is counted, whatever stands in it
abbrev pub skipped : Line → Line
skipped l = record { count = l.count + 1; word = l.word; numbers = l.numbers; money = l.money; fault = l.fault }

-- one stretch more: an empty one is no field, and behind a fault nothing counts
unfoldable pub step : Line → List ℕ → Line
step l f =
    cond (is_some l.fault || eqb (length f) 0) l
    (cond (eqb l.count 0) (named l (word_of f))
    (cond (ltb l.count 8) (numbered l (parsed f)) (cond (eqb l.count 8) (owing l (owed_in f)) (skipped l))))

-- a line that begins with `#` is as an empty one
unfoldable pub read_line : List ℕ → Line
read_line bytes = cond (eqb (at bytes 0) 35) empty_line (over step empty_line (pieces bytes))

-- ---- what is wrong with a line by itself, where its word is known or not and wants so many numbers behind it. Too few or too many
-- are told only where each that is read can be read; a line without a word is right
unfoldable pub line_fault : (known : Bool) (wanted : ℕ) → Line → Option Fault
line_fault known wanted l =
    cond known
    (cond (is_some l.fault || eqb l.count 0) l.fault
    (cond (ltb (l.count - 1) wanted) (Some Fault.Few) (cond (ltb wanted (l.count - 1)) (Some Fault.Many) None)))
    (Some Fault.Word)
