-- Whole texts by the definitions, the answers worked out by hand: what is read of each, what `make` answers, and what is written of the
-- sheet that it makes. Above each stands its text. Assumes nothing.
use Rattle.std.specs.Prelude.{Option, Some, None, Result, Ok, Err}
use Rattle.refusals.specs.declared.Refusal.{Refusal}
use Prim.Native.Nat.{ℕ, zero, suc}
use mathlib.Core.Path.{◌≡◌, refl}
use mathlib.Core.List.{List, [], ◌∷◌, ◌++◌, map}
use Rattle.sums.specs.Sums.{pick}
use Rattle.sums.specs.Lists.{list_to}
use Rattle.refusals.specs.Refusals.{first_bad, refusal}
use Rattle.octets.specs.Bytes.{u32_at, words_at, word, byte_of, bytes_of}
use Rattle.sheet.specs.Reading.{counts_of, distances_good, layout_good, kind_at, agent_verdict, boundary_verdict, plant_verdict}
use Rattle.sheet.specs.Reading.{contract_verdict, read_verdict, read_of}
use Rattle.sheet.specs.Asking.{rows_in, rows_before}
use Rattle.sheet.specs.declared.Counts.{Counts}
use Rattle.printing.specs.Text.{spell, lines_to}
use Rattle.text.specs.Fields.{all_digits, worth, parsed_as, parsed, owed_as, owed_in}
use Rattle.text.specs.Lines.{cut, over, word_of, named, numbered, owing, step, read_line, line_fault}
use Rattle.text.specs.Written.{joined, row_text}
use Rattle.text.specs.declared.Fault.{Fault}
use Rattle.writing.specs.Numbers.{Numbers, numbers}
use Rattle.writing.specs.Words.{trailer_words, sheet_row, sheet_of}
use Rattle.writing.specs.Judged.{agent_listed, boundary_listed, plant_listed, contract_listed, row_listed, section_listed, write_verdict}
use Rattle.typing.specs.Rows.{wants, sheet_fault, counted_in, scan_row, scan_line, scanned, gather_line, listed, numbers_in}
use Rattle.typing.specs.Text.{word_for, row_typed, sheet_text, text_of}
use Rattle.typing.specs.Made.{line_from, line_of_row, refused_line, made}
use Rattle.typing.specs.declared.Scan.{Scan}
use Rattle.typing.specs.declared.Unmade.{Unmade}

-- every separator, CR LF and LF, a comment, a blank line, sections in any order, leading zeros, no line end at the end:
--     # March\r\ncontract;0;1;1;0050;7\r\nagent\t2\r\n\r\nplant, 0, 1, 3, 20, 9\nagent 1\nboundary  1,0 ;400\t0
abbrev whole : List ℕ
whole =
    35 ∷ 32 ∷ 77 ∷ 97 ∷ 114 ∷ 99 ∷ 104 ∷ 13 ∷ 10 ∷ 99 ∷ 111 ∷ 110 ∷ 116 ∷ 114 ∷ 97 ∷ 99 ∷ 116 ∷ 59 ∷ 48 ∷ 59 ∷ 49 ∷ 59 ∷ 49 ∷ 59
    ∷ 48 ∷ 48 ∷ 53 ∷ 48 ∷ 59 ∷ 55 ∷ 13 ∷ 10 ∷ 97 ∷ 103 ∷ 101 ∷ 110 ∷ 116 ∷ 9 ∷ 50 ∷ 13 ∷ 10 ∷ 13 ∷ 10 ∷ 112 ∷ 108 ∷ 97 ∷ 110 ∷ 116
    ∷ 44 ∷ 32 ∷ 48 ∷ 44 ∷ 32 ∷ 49 ∷ 44 ∷ 32 ∷ 51 ∷ 44 ∷ 32 ∷ 50 ∷ 48 ∷ 44 ∷ 32 ∷ 57 ∷ 10 ∷ 97 ∷ 103 ∷ 101 ∷ 110 ∷ 116 ∷ 32 ∷ 49
    ∷ 10 ∷ 98 ∷ 111 ∷ 117 ∷ 110 ∷ 100 ∷ 97 ∷ 114 ∷ 121 ∷ 32 ∷ 32 ∷ 49 ∷ 44 ∷ 48 ∷ 32 ∷ 59 ∷ 52 ∷ 48 ∷ 48 ∷ 9 ∷ 48 ∷ []

-- the same as it is written: agent 2\nagent 1\nboundary 1 0 400 0\nplant 0 1 3 20 9\ncontract 0 1 1 50 7\n
abbrev plain : List ℕ
plain =
    97 ∷ 103 ∷ 101 ∷ 110 ∷ 116 ∷ 32 ∷ 50 ∷ 10 ∷ 97 ∷ 103 ∷ 101 ∷ 110 ∷ 116 ∷ 32 ∷ 49 ∷ 10 ∷ 98 ∷ 111 ∷ 117 ∷ 110 ∷ 100 ∷ 97
    ∷ 114 ∷ 121 ∷ 32 ∷ 49 ∷ 32 ∷ 48 ∷ 32 ∷ 52 ∷ 48 ∷ 48 ∷ 32 ∷ 48 ∷ 10 ∷ 112 ∷ 108 ∷ 97 ∷ 110 ∷ 116 ∷ 32 ∷ 48 ∷ 32 ∷ 49 ∷ 32 ∷ 51
    ∷ 32 ∷ 50 ∷ 48 ∷ 32 ∷ 57 ∷ 10 ∷ 99 ∷ 111 ∷ 110 ∷ 116 ∷ 114 ∷ 97 ∷ 99 ∷ 116 ∷ 32 ∷ 48 ∷ 32 ∷ 49 ∷ 32 ∷ 49 ∷ 32 ∷ 53 ∷ 48 ∷ 32
    ∷ 55 ∷ 10 ∷ []

-- a word that is not known: agent 1\nagents 1\n
abbrev unknown : List ℕ
unknown =
    97 ∷ 103 ∷ 101 ∷ 110 ∷ 116 ∷ 32 ∷ 49 ∷ 10 ∷ 97 ∷ 103 ∷ 101 ∷ 110 ∷ 116 ∷ 115 ∷ 32 ∷ 49 ∷ 10 ∷ []

-- a word of statements, not of sheets: \n\nprice 5
abbrev stated : List ℕ
stated =
    10 ∷ 10 ∷ 112 ∷ 114 ∷ 105 ∷ 99 ∷ 101 ∷ 32 ∷ 53 ∷ []

-- a number too few: agent 2\r\nplant 0 0 0 5\r\n
abbrev short : List ℕ
short =
    97 ∷ 103 ∷ 101 ∷ 110 ∷ 116 ∷ 32 ∷ 50 ∷ 13 ∷ 10 ∷ 112 ∷ 108 ∷ 97 ∷ 110 ∷ 116 ∷ 32 ∷ 48 ∷ 32 ∷ 48 ∷ 32 ∷ 48 ∷ 32 ∷ 53 ∷ 13
    ∷ 10 ∷ []

-- a number too many; the next line is wrong too: agent 1 2\nagent x
abbrev long : List ℕ
long =
    97 ∷ 103 ∷ 101 ∷ 110 ∷ 116 ∷ 32 ∷ 49 ∷ 32 ∷ 50 ∷ 10 ∷ 97 ∷ 103 ∷ 101 ∷ 110 ∷ 116 ∷ 32 ∷ 120 ∷ []

-- a letter in a number; the two behind it are missing: # a\n# b\nboundary 0 1x
abbrev letter : List ℕ
letter =
    35 ∷ 32 ∷ 97 ∷ 10 ∷ 35 ∷ 32 ∷ 98 ∷ 10 ∷ 98 ∷ 111 ∷ 117 ∷ 110 ∷ 100 ∷ 97 ∷ 114 ∷ 121 ∷ 32 ∷ 48 ∷ 32 ∷ 49 ∷ 120 ∷ []

-- one more than 32 bits hold: agent 1\nagent 4294967296
abbrev large : List ℕ
large =
    97 ∷ 103 ∷ 101 ∷ 110 ∷ 116 ∷ 32 ∷ 49 ∷ 10 ∷ 97 ∷ 103 ∷ 101 ∷ 110 ∷ 116 ∷ 32 ∷ 52 ∷ 50 ∷ 57 ∷ 52 ∷ 57 ∷ 54 ∷ 55 ∷ 50 ∷ 57
    ∷ 54 ∷ []

-- a comment alone: # nothing
abbrev comment : List ℕ
comment =
    35 ∷ 32 ∷ 110 ∷ 111 ∷ 116 ∷ 104 ∷ 105 ∷ 110 ∷ 103 ∷ []

-- two agents, and a third line that is too short: agent 1\nagent 2\nagent
abbrev pair : List ℕ
pair =
    97 ∷ 103 ∷ 101 ∷ 110 ∷ 116 ∷ 32 ∷ 49 ∷ 10 ∷ 97 ∷ 103 ∷ 101 ∷ 110 ∷ 116 ∷ 32 ∷ 50 ∷ 10 ∷ 97 ∷ 103 ∷ 101 ∷ 110 ∷ 116 ∷ []

-- the second boundary is of an agent that is not listed: boundary 0 0 5 0\n\nboundary 1 0 5 0\nagent 1\n
abbrev unlisted : List ℕ
unlisted =
    98 ∷ 111 ∷ 117 ∷ 110 ∷ 100 ∷ 97 ∷ 114 ∷ 121 ∷ 32 ∷ 48 ∷ 32 ∷ 48 ∷ 32 ∷ 53 ∷ 32 ∷ 48 ∷ 10 ∷ 10 ∷ 98 ∷ 111 ∷ 117 ∷ 110 ∷ 100
    ∷ 97 ∷ 114 ∷ 121 ∷ 32 ∷ 49 ∷ 32 ∷ 48 ∷ 32 ∷ 53 ∷ 32 ∷ 48 ∷ 10 ∷ 97 ∷ 103 ∷ 101 ∷ 110 ∷ 116 ∷ 32 ∷ 49 ∷ 10 ∷ []

-- a bad boundary before a bad agent: agents are judged first: boundary 7 0 0 0\nagent 9
abbrev agent_first : List ℕ
agent_first =
    98 ∷ 111 ∷ 117 ∷ 110 ∷ 100 ∷ 97 ∷ 114 ∷ 121 ∷ 32 ∷ 55 ∷ 32 ∷ 48 ∷ 32 ∷ 48 ∷ 32 ∷ 48 ∷ 10 ∷ 97 ∷ 103 ∷ 101 ∷ 110 ∷ 116 ∷ 32
    ∷ 57 ∷ []

-- a plant that must run more than it has: agent 2\nplant 0 1 5 20 4\n
abbrev overrun : List ℕ
overrun =
    97 ∷ 103 ∷ 101 ∷ 110 ∷ 116 ∷ 32 ∷ 50 ∷ 10 ∷ 112 ∷ 108 ∷ 97 ∷ 110 ∷ 116 ∷ 32 ∷ 48 ∷ 32 ∷ 49 ∷ 32 ∷ 53 ∷ 32 ∷ 50 ∷ 48 ∷ 32
    ∷ 52 ∷ 10 ∷ []

-- the second contract is sold by a retailer: agent 1\nagent 2\ncontract 1 0 1 2 3\ncontract 0 1 1 2 3
abbrev seller : List ℕ
seller =
    97 ∷ 103 ∷ 101 ∷ 110 ∷ 116 ∷ 32 ∷ 49 ∷ 10 ∷ 97 ∷ 103 ∷ 101 ∷ 110 ∷ 116 ∷ 32 ∷ 50 ∷ 10 ∷ 99 ∷ 111 ∷ 110 ∷ 116 ∷ 114 ∷ 97 ∷ 99
    ∷ 116 ∷ 32 ∷ 49 ∷ 32 ∷ 48 ∷ 32 ∷ 49 ∷ 32 ∷ 50 ∷ 32 ∷ 51 ∷ 10 ∷ 99 ∷ 111 ∷ 110 ∷ 116 ∷ 114 ∷ 97 ∷ 99 ∷ 116 ∷ 32 ∷ 48 ∷ 32 ∷ 49
    ∷ 32 ∷ 49 ∷ 32 ∷ 50 ∷ 32 ∷ 51 ∷ []

-- one agent: agent 1\n
abbrev one : List ℕ
one =
    97 ∷ 103 ∷ 101 ∷ 110 ∷ 116 ∷ 32 ∷ 49 ∷ 10 ∷ []

abbrev times : ℕ → List ℕ → List ℕ
times zero l = []
times (suc n) l = l ++ times n l

abbrev counts : (agents boundaries plants contracts : ℕ) → Counts
counts a b p c = record { agents = a; boundaries = b; plants = p; contracts = c }

abbrev scan : (line : ℕ) → Option Fault → Counts → Scan
scan n f c = record { line = n; fault = f; counts = c }

-- lists with room for two agents and a row of each other section, then for less: a line's own fault comes before the room
pub read_cases : (map (scanned (counts 2 1 1 1)) (whole ∷ plain ∷ pair ∷ [])
    ≡ (scan 7 None (counts 2 1 1 1) ∷ scan 6 None (counts 2 1 1 1) ∷ scan 3 (Some Fault.Few) (counts 3 0 0 0) ∷ []))
    × (map (scanned (counts 1 1 0 1)) (whole ∷ pair ∷ one ∷ [])
    ≡ (scan 5 (Some Fault.Rows) (counts 1 0 1 1) ∷ scan 2 (Some Fault.Rows) (counts 2 0 0 0) ∷ scan 2 None (counts 1 0 0 0) ∷ []))
unfolding all_digits worth parsed_as parsed owed_as owed_in cut over word_of named numbered owing step read_line
    line_fault wants sheet_fault counted_in scan_row scan_line scanned pick
read_cases = (refl, refl)

-- the numbers of `whole` and of `plain`
abbrev typed : Numbers
typed = numbers (2 ∷ 1 ∷ []) (1 ∷ 0 ∷ 400 ∷ 0 ∷ []) (0 ∷ 1 ∷ 3 ∷ 20 ∷ 9 ∷ []) (0 ∷ 1 ∷ 1 ∷ 50 ∷ 7 ∷ [])

pub number_cases : map numbers_in (whole ∷ plain ∷ []) ≡ (typed ∷ typed ∷ [])
unfolding all_digits worth parsed_as parsed owed_as owed_in cut over word_of named numbered owing step read_line
    wants gather_line listed
number_cases = refl

abbrev wrong : (line : ℕ) → Fault → Result ℕ Unmade
wrong n f = Err (Unmade.Wrong (record { line = n; fault = f }))

abbrev refused : (line : ℕ) → Refusal → Result ℕ Unmade
refused n r = Err (Unmade.Refused n r)

-- made in 112 bytes, which is what five rows take; in a byte less; and 64 agents, which are the most
pub made_cases : (map (λ (t : List ℕ). made t 112) (whole ∷ unknown ∷ stated ∷ short ∷ long ∷ letter ∷ large ∷ comment ∷ pair ∷ [])
    ≡ (Ok 112
    ∷ wrong 2 Fault.Word
    ∷ wrong 3 Fault.Word
    ∷ wrong 2 Fault.Few
    ∷ wrong 1 Fault.Many
    ∷ wrong 3 Fault.NotANumber
    ∷ wrong 2 Fault.TooLarge
    ∷ Ok 32
    ∷ wrong 3 Fault.Few
    ∷ []))
    × (map (λ (t : List ℕ). made t 112) (unlisted ∷ agent_first ∷ overrun ∷ seller ∷ [])
    ≡ (refused 3 (refusal 4 1)
    ∷ refused 2 (refusal 3 0)
    ∷ refused 2 (refusal 5 0)
    ∷ refused 4 (refusal 6 1)
    ∷ []))
    × (made whole 111 ≡ refused 0 (refusal 11 0))
    × (made (times 64 one) 1056 ≡ Ok 1056)
    × (made (times 65 one) 1056 ≡ wrong 65 Fault.Rows)
unfolding all_digits worth parsed_as parsed owed_as owed_in cut over word_of named numbered owing step read_line
    line_fault wants sheet_fault counted_in scan_row scan_line scanned gather_line listed pick first_bad rows_in agent_listed
    boundary_listed plant_listed contract_listed row_listed section_listed write_verdict line_from line_of_row refused_line made
made_cases = (refl, refl, refl, refl, refl)

-- the sheet of the first text, as text
pub text_case : text_of (read_of (sheet_of typed)) (sheet_of typed) ≡ plain
unfolding list_to u32_at words_at word byte_of bytes_of trailer_words sheet_row sheet_of counts_of distances_good layout_good kind_at agent_verdict
    boundary_verdict plant_verdict contract_verdict first_bad read_verdict read_of rows_in rows_before spell lines_to joined row_text word_for row_typed
    sheet_text
text_case = refl
