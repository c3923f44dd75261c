-- Lines by the definitions, worked out by hand: each pair is a line and what it is read as. Assumes nothing.
use Rattle.std.specs.Prelude.{Ok, Err, Option, Some, None}
use Prim.Native.Nat.{ℕ}
use mathlib.Core.Path.{◌≡◌, refl}
use mathlib.Core.Bool.{true, false}
use mathlib.Core.List.{List, [], ◌∷◌, map}
use lib.IntN.{pos, negsuc}
use Rattle.text.specs.Fields.{all_digits, worth, parsed_as, parsed, owed_as, owed_in}
use Rattle.text.specs.Lines.{cut, lines, over, word_of, named, numbered, owing, step, empty_line, read_line, line_fault}
use Rattle.text.specs.declared.Fault.{Fault}
use Rattle.text.specs.declared.Line.{Line}

abbrev given : List (List ℕ)
given =
    (97 ∷ 103 ∷ 101 ∷ 110 ∷ 116 ∷ 59 ∷ 49 ∷ 13 ∷ [])
    ∷ (35 ∷ 32 ∷ 97 ∷ 103 ∷ 101 ∷ 110 ∷ 116 ∷ 32 ∷ 49 ∷ [])
    ∷ ([])
    ∷ (9 ∷ 112 ∷ 108 ∷ 97 ∷ 110 ∷ 116 ∷ 44 ∷ 32 ∷ 50 ∷ 32 ∷ 44 ∷ 44 ∷ 51 ∷ [])
    ∷ (99 ∷ 111 ∷ 110 ∷ 116 ∷ 114 ∷ 97 ∷ 99 ∷ 116 ∷ 32 ∷ 48 ∷ 48 ∷ 48 ∷ 52 ∷ 50 ∷ 57 ∷ 52 ∷ 57 ∷ 54 ∷ 55 ∷ 50 ∷ 57 ∷ 53 ∷ [])
    ∷ (112 ∷ 114 ∷ 105 ∷ 99 ∷ 101 ∷ 32 ∷ 52 ∷ 50 ∷ 57 ∷ 52 ∷ 57 ∷ 54 ∷ 55 ∷ 50 ∷ 57 ∷ 54 ∷ [])
    ∷ (98 ∷ 111 ∷ 117 ∷ 110 ∷ 100 ∷ 97 ∷ 114 ∷ 121 ∷ 32 ∷ 49 ∷ 120 ∷ 32 ∷ 57 ∷ 57 ∷ 57 ∷ 57 ∷ 57 ∷ 57 ∷ 57 ∷ 57 ∷ 57 ∷ 57 ∷ 57 ∷ [])
    ∷ (97 ∷ 103 ∷ 101 ∷ 110 ∷ 116 ∷ 32 ∷ 45 ∷ 49 ∷ [])
    ∷ (97 ∷ 103 ∷ 101 ∷ 110 ∷ 116 ∷ 115 ∷ 32 ∷ 49 ∷ [])
    ∷ (97 ∷ 103 ∷ 101 ∷ 110 ∷ 116 ∷ 32 ∷ 49 ∷ 32 ∷ 50 ∷ 32 ∷ 51 ∷ 32 ∷ 52 ∷ 32 ∷ 53 ∷ 32 ∷ 54 ∷ 32 ∷ 55 ∷ 32 ∷ 120 ∷ 32 ∷ 57 ∷ [])
    ∷ (97 ∷ 103 ∷ 101 ∷ 110 ∷ 116 ∷ 32 ∷ 49 ∷ 32 ∷ 50 ∷ 32 ∷ 51 ∷ 32 ∷ 52 ∷ 32 ∷ 53 ∷ 32 ∷ 54 ∷ 32 ∷ 55 ∷ 32 ∷ 45 ∷ 56 ∷ [])
    ∷ (97 ∷ 103 ∷ 101 ∷ 110 ∷ 116 ∷ 32 ∷ 49 ∷ 32 ∷ 50 ∷ 32 ∷ 51 ∷ 32 ∷ 52 ∷ 32 ∷ 53 ∷ 32 ∷ 54 ∷ 32 ∷ 55 ∷ 32 ∷ 56 ∷ 32 ∷ 120 ∷ [])
    ∷ (112 ∷ 108 ∷ 97 ∷ 110 ∷ 116 ∷ 32 ∷ 45 ∷ 49 ∷ [])
    ∷ []

abbrev expected : List Line
expected =
    record { count = 2; word = 1; numbers = 1 ∷ 0 ∷ 0 ∷ 0 ∷ 0 ∷ 0 ∷ 0 ∷ []; money = pos 0; fault = None }
    ∷ record { count = 0; word = 0; numbers = 0 ∷ 0 ∷ 0 ∷ 0 ∷ 0 ∷ 0 ∷ 0 ∷ []; money = pos 0; fault = None }
    ∷ record { count = 0; word = 0; numbers = 0 ∷ 0 ∷ 0 ∷ 0 ∷ 0 ∷ 0 ∷ 0 ∷ []; money = pos 0; fault = None }
    ∷ record { count = 3; word = 3; numbers = 2 ∷ 3 ∷ 0 ∷ 0 ∷ 0 ∷ 0 ∷ 0 ∷ []; money = pos 0; fault = None }
    ∷ record { count = 2; word = 4; numbers = 4294967295 ∷ 0 ∷ 0 ∷ 0 ∷ 0 ∷ 0 ∷ 0 ∷ []; money = pos 0; fault = None }
    ∷ record { count = 2; word = 5; numbers = 0 ∷ 0 ∷ 0 ∷ 0 ∷ 0 ∷ 0 ∷ 0 ∷ []; money = pos 0; fault = Some Fault.TooLarge }
    ∷ record { count = 2; word = 2; numbers = 0 ∷ 0 ∷ 0 ∷ 0 ∷ 0 ∷ 0 ∷ 0 ∷ []; money = pos 0; fault = Some Fault.NotANumber }
    ∷ record { count = 2; word = 1; numbers = 0 ∷ 0 ∷ 0 ∷ 0 ∷ 0 ∷ 0 ∷ 0 ∷ []; money = pos 0; fault = Some Fault.NotANumber }
    ∷ record { count = 1; word = 0; numbers = 0 ∷ 0 ∷ 0 ∷ 0 ∷ 0 ∷ 0 ∷ 0 ∷ []; money = pos 0; fault = Some Fault.Word }
    ∷ record { count = 9; word = 1; numbers = 1 ∷ 2 ∷ 3 ∷ 4 ∷ 5 ∷ 6 ∷ 7 ∷ []; money = pos 0; fault = Some Fault.NotANumber }
    ∷ record { count = 9; word = 1; numbers = 1 ∷ 2 ∷ 3 ∷ 4 ∷ 5 ∷ 6 ∷ 7 ∷ []; money = negsuc 7; fault = None }
    ∷ record { count = 10; word = 1; numbers = 1 ∷ 2 ∷ 3 ∷ 4 ∷ 5 ∷ 6 ∷ 7 ∷ []; money = pos 8; fault = None }
    ∷ record { count = 2; word = 3; numbers = 0 ∷ 0 ∷ 0 ∷ 0 ∷ 0 ∷ 0 ∷ 0 ∷ []; money = pos 0; fault = Some Fault.NotANumber }
    ∷ []

-- in order: `agent;1` and a carriage return; a comment; nothing; tabs and commas; leading zeros; one above 32 bits; a letter before a
-- number too large; a sign; a word that is not known; an eighth field that is no money; money below 0; a field behind the money; a sign
-- before another number
lines_read : map read_line given ≡ expected
unfolding all_digits worth parsed_as parsed owed_as owed_in cut over word_of named numbered owing step read_line
lines_read = refl

-- 'a\r\n\nb': three lines, and none is left out
three_lines : lines (97 ∷ 13 ∷ 10 ∷ 10 ∷ 98 ∷ []) ≡ (97 ∷ 13 ∷ []) ∷ [] ∷ (98 ∷ []) ∷ []
unfolding cut
three_lines = refl

abbrev moneys : List (List ℕ)
moneys =
    (48 ∷ [])
    ∷ (45 ∷ 48 ∷ [])
    ∷ (45 ∷ [])
    ∷ ([])
    ∷ (45 ∷ 45 ∷ 53 ∷ [])
    ∷ (43 ∷ 53 ∷ [])
    ∷ (53 ∷ 45 ∷ [])
    ∷ (45 ∷ 48 ∷ 48 ∷ 55 ∷ [])
    ∷ (57 ∷ 57 ∷ 57 ∷ 57 ∷ 57 ∷ 57 ∷ 57 ∷ 57 ∷ 57 ∷ 57 ∷ 57 ∷ 57 ∷ 57 ∷ 57 ∷ 57 ∷ 57 ∷ 57 ∷ 57 ∷ [])
    ∷ (45 ∷ 57 ∷ 57 ∷ 57 ∷ 57 ∷ 57 ∷ 57 ∷ 57 ∷ 57 ∷ 57 ∷ 57 ∷ 57 ∷ 57 ∷ 57 ∷ 57 ∷ 57 ∷ 57 ∷ 57 ∷ 57 ∷ [])
    ∷ (49 ∷ 48 ∷ 48 ∷ 48 ∷ 48 ∷ 48 ∷ 48 ∷ 48 ∷ 48 ∷ 48 ∷ 48 ∷ 48 ∷ 48 ∷ 48 ∷ 48 ∷ 48 ∷ 48 ∷ 48 ∷ 48 ∷ [])
    ∷ (45 ∷ 49 ∷ 48 ∷ 48 ∷ 48 ∷ 48 ∷ 48 ∷ 48 ∷ 48 ∷ 48 ∷ 48 ∷ 48 ∷ 48 ∷ 48 ∷ 48 ∷ 48 ∷ 48 ∷ 48 ∷ 48 ∷ 48 ∷ [])
    ∷ (45 ∷ 57 ∷ 57 ∷ 57 ∷ 57 ∷ 57 ∷ 57 ∷ 57 ∷ 57 ∷ 57 ∷ 57 ∷ 57 ∷ 57 ∷ 57 ∷ 57 ∷ 57 ∷ 57 ∷ 57 ∷ 57 ∷ 57 ∷ 57 ∷ 57 ∷ 57 ∷ 57 ∷ 120 ∷ [])
    ∷ []

-- in order: `0`, `-0`, `-`, nothing, `--5`, `+5`, `5-`, `-007`, `999999999999999999`, `-999999999999999999`, `1000000000000000000`,
-- `-1000000000000000000`, `-99999999999999999999999x`
money_read : map owed_in moneys
    ≡ Ok (pos 0)
    ∷ Ok (pos 0)
    ∷ Err Fault.NotANumber
    ∷ Err Fault.NotANumber
    ∷ Err Fault.NotANumber
    ∷ Err Fault.NotANumber
    ∷ Err Fault.NotANumber
    ∷ Ok (negsuc 6)
    ∷ Ok (pos 999999999999999999)
    ∷ Ok (negsuc 999999999999999998)
    ∷ Err Fault.TooLarge
    ∷ Err Fault.TooLarge
    ∷ Err Fault.NotANumber
    ∷ []
unfolding all_digits worth owed_as owed_in
money_read = refl

-- a line with this word, so many fields and this fault
abbrev lined : (word count : ℕ) → Option Fault → Line
lined w n f = record { count = n; word = w; numbers = empty_line.numbers; money = pos 0; fault = f }

-- in order: a word that is not known here, even with a number that cannot be read; a number that cannot be read before too few and
-- before too many; too few; too many; as many as are wanted; a line without a word
faults_told : line_fault false 2 (lined 2 3 None)
    ∷ line_fault false 2 (lined 2 2 (Some Fault.NotANumber))
    ∷ line_fault true 2 (lined 3 2 (Some Fault.TooLarge))
    ∷ line_fault true 2 (lined 3 9 (Some Fault.NotANumber))
    ∷ line_fault true 2 (lined 3 2 None)
    ∷ line_fault true 2 (lined 3 4 None)
    ∷ line_fault true 2 (lined 3 3 None)
    ∷ line_fault true 2 (lined 0 0 None)
    ∷ []
    ≡ Some Fault.Word ∷ Some Fault.Word ∷ Some Fault.TooLarge ∷ Some Fault.NotANumber ∷ Some Fault.Few ∷ Some Fault.Many ∷ None ∷ None ∷ []
unfolding line_fault
faults_told = refl
