-- Statements by the definitions, worked out by hand: for a sheet with one agent, one plant and one contract each pair is a text and
-- its answer. Assumes nothing.
use Rattle.std.specs.Prelude.{Result, Ok, Err}
use Prim.Native.Nat.{ℕ}
use mathlib.Core.Path.{◌≡◌, refl}
use mathlib.Core.List.{List, [], ◌∷◌, ◌++◌, map}
use lib.IntN.{pos, negsuc}
use Rattle.sums.specs.Sums.{first, stop}
use Rattle.sums.specs.Lists.{list_to}
use Rattle.hour.specs.Answer.{Lent, lent}
use Rattle.sheet.specs.declared.Counts.{Counts}
use Rattle.text.specs.Fields.{all_digits, worth, parsed_as, parsed, owed_as, owed_in}
use Rattle.text.specs.Lines.{cut, over, word_of, named, numbered, owing, step, read_line, line_fault}
use Rattle.text.specs.declared.Fault.{Fault}
use Rattle.stating.specs.Rows.{asks, rows_for, rows_ahead, row_number, row_fault, statement_fault, with_mark, mark_row, mark_line}
use Rattle.stating.specs.Rows.{unmarked, marked_in, last_fault, figures_line, money_line, second_line, price_line, price_in}
use Rattle.stating.specs.Read.{lists_fit, statement_after, statement_of, stated_in}
use Rattle.text.specs.declared.WrongLine.{WrongLine}

abbrev counted : (agents plants contracts : ℕ) → Counts
counted a p k = record { agents = a; boundaries = 2; plants = p; contracts = k }

-- a cell more than the agent's figures need
abbrev before : Lent
before =
    lent (90 ∷ 91 ∷ 92 ∷ 93 ∷ 94 ∷ 95 ∷ 96 ∷ []) (pos 97 ∷ []) (98 ∷ []) (99 ∷ [])

-- `price 5`, `agent 0 1 2 3 4 5 6 7`, `plant 0 8` and `contract 0 9`, each with its line end
abbrev a_price : List ℕ
a_price = 112 ∷ 114 ∷ 105 ∷ 99 ∷ 101 ∷ 32 ∷ 53 ∷ 10 ∷ []

abbrev an_agent : List ℕ
an_agent = 97 ∷ 103 ∷ 101 ∷ 110 ∷ 116 ∷ 32 ∷ 48 ∷ 32 ∷ 49 ∷ 32 ∷ 50 ∷ 32 ∷ 51 ∷ 32 ∷ 52 ∷ 32 ∷ 53 ∷ 32 ∷ 54 ∷ 32 ∷ 55 ∷
    10 ∷ []

abbrev a_plant : List ℕ
a_plant = 112 ∷ 108 ∷ 97 ∷ 110 ∷ 116 ∷ 32 ∷ 48 ∷ 32 ∷ 56 ∷ 10 ∷ []

abbrev a_contract : List ℕ
a_contract = 99 ∷ 111 ∷ 110 ∷ 116 ∷ 114 ∷ 97 ∷ 99 ∷ 116 ∷ 32 ∷ 48 ∷ 32 ∷ 57 ∷ 10 ∷ []

-- these with -7 for the money; and the same rows in another order, with a comment, CR LF, an empty line and other separators
abbrev ours : List ℕ
ours =
    112 ∷ 114 ∷ 105 ∷ 99 ∷ 101 ∷ 32 ∷ 53 ∷ 10 ∷ 97 ∷ 103 ∷ 101 ∷ 110 ∷ 116 ∷ 32 ∷ 48 ∷ 32 ∷ 49 ∷ 32 ∷ 50 ∷ 32 ∷
    51 ∷ 32 ∷ 52 ∷ 32 ∷ 53 ∷ 32 ∷ 54 ∷ 32 ∷ 45 ∷ 55 ∷ 10 ∷ 112 ∷ 108 ∷ 97 ∷ 110 ∷ 116 ∷ 32 ∷ 48 ∷ 32 ∷ 56 ∷
    10 ∷ 99 ∷ 111 ∷ 110 ∷ 116 ∷ 114 ∷ 97 ∷ 99 ∷ 116 ∷ 32 ∷ 48 ∷ 32 ∷ 57 ∷ []

abbrev another : List ℕ
another =
    35 ∷ 32 ∷ 111 ∷ 117 ∷ 114 ∷ 115 ∷ 13 ∷ 10 ∷ 99 ∷ 111 ∷ 110 ∷ 116 ∷ 114 ∷ 97 ∷ 99 ∷ 116 ∷ 59 ∷ 48 ∷ 59 ∷ 57 ∷
    13 ∷ 10 ∷ 13 ∷ 10 ∷ 112 ∷ 108 ∷ 97 ∷ 110 ∷ 116 ∷ 44 ∷ 48 ∷ 44 ∷ 56 ∷ 13 ∷ 10 ∷ 97 ∷ 103 ∷ 101 ∷ 110 ∷
    116 ∷ 9 ∷ 48 ∷ 32 ∷ 49 ∷ 32 ∷ 50 ∷ 32 ∷ 51 ∷ 32 ∷ 52 ∷ 32 ∷ 53 ∷ 32 ∷ 54 ∷ 32 ∷ 45 ∷ 55 ∷ 13 ∷ 10 ∷ 112 ∷
    114 ∷ 105 ∷ 99 ∷ 101 ∷ 32 ∷ 48 ∷ 53 ∷ 13 ∷ 10 ∷ []

abbrev texts : List (List ℕ)
texts =
    ours
    ∷ another
    ∷ ([])
    ∷ (an_agent ++ a_plant ++ a_contract)
    ∷ (a_price ++ an_agent ++ a_contract)
    ∷ (a_price ++ (98 ∷ 111 ∷ 117 ∷ 110 ∷ 100 ∷ 97 ∷ 114 ∷ 121 ∷ 32 ∷ 48 ∷ 32 ∷ 49 ∷ 32 ∷ 50 ∷ 32 ∷ 51 ∷ []))
    ∷ (98 ∷ 111 ∷ 117 ∷ 110 ∷ 100 ∷ 97 ∷ 114 ∷ 121 ∷ 32 ∷ 120 ∷ [])
    ∷ (a_price ++ (80 ∷ 114 ∷ 105 ∷ 99 ∷ 101 ∷ 32 ∷ 53 ∷ []))
    ∷ (a_price ++ an_agent ++ (112 ∷ 108 ∷ 97 ∷ 110 ∷ 116 ∷ 32 ∷ 48 ∷ []))
    ∷ (97 ∷ 103 ∷ 101 ∷ 110 ∷ 116 ∷ 32 ∷ 48 ∷ 32 ∷ 49 ∷ 32 ∷ 50 ∷ 32 ∷ 51 ∷ 32 ∷ 52 ∷ 32 ∷ 53 ∷ 32 ∷ 54 ∷ [])
    ∷ (112 ∷ 114 ∷ 105 ∷ 99 ∷ 101 ∷ 32 ∷ 53 ∷ 32 ∷ 54 ∷ [])
    ∷ (97 ∷ 103 ∷ 101 ∷ 110 ∷ 116 ∷ 32 ∷ 48 ∷ 32 ∷ 49 ∷ 32 ∷ 50 ∷ 32 ∷ 51 ∷ 32 ∷ 52 ∷ 32 ∷ 53 ∷ 32 ∷ 54 ∷ 32 ∷ 55 ∷
    32 ∷ 56 ∷ [])
    ∷ (112 ∷ 108 ∷ 97 ∷ 110 ∷ 116 ∷ 32 ∷ 55 ∷ [])
    ∷ (112 ∷ 108 ∷ 97 ∷ 110 ∷ 116 ∷ 32 ∷ 55 ∷ 32 ∷ 56 ∷ 32 ∷ 57 ∷ [])
    ∷ (112 ∷ 108 ∷ 97 ∷ 110 ∷ 116 ∷ 32 ∷ 55 ∷ 32 ∷ 45 ∷ 56 ∷ [])
    ∷ (97 ∷ 103 ∷ 101 ∷ 110 ∷ 116 ∷ 32 ∷ 48 ∷ 32 ∷ 49 ∷ 32 ∷ 50 ∷ 32 ∷ 51 ∷ 32 ∷ 52 ∷ 32 ∷ 53 ∷ 32 ∷ 54 ∷ 32 ∷ 55 ∷
    45 ∷ [])
    ∷ (112 ∷ 108 ∷ 97 ∷ 110 ∷ 116 ∷ 32 ∷ 48 ∷ 32 ∷ 52 ∷ 50 ∷ 57 ∷ 52 ∷ 57 ∷ 54 ∷ 55 ∷ 50 ∷ 57 ∷ 54 ∷ [])
    ∷ (97 ∷ 103 ∷ 101 ∷ 110 ∷ 116 ∷ 32 ∷ 48 ∷ 32 ∷ 49 ∷ 32 ∷ 50 ∷ 32 ∷ 51 ∷ 32 ∷ 52 ∷ 32 ∷ 53 ∷ 32 ∷ 54 ∷ 32 ∷ 45 ∷
    49 ∷ 48 ∷ 48 ∷ 48 ∷ 48 ∷ 48 ∷ 48 ∷ 48 ∷ 48 ∷ 48 ∷ 48 ∷ 48 ∷ 48 ∷ 48 ∷ 48 ∷ 48 ∷ 48 ∷ 48 ∷ 48 ∷ [])
    ∷ (a_price ++ (112 ∷ 108 ∷ 97 ∷ 110 ∷ 116 ∷ 32 ∷ 49 ∷ 32 ∷ 56 ∷ []))
    ∷ (a_price ++ (99 ∷ 111 ∷ 110 ∷ 116 ∷ 114 ∷ 97 ∷ 99 ∷ 116 ∷ 32 ∷ 49 ∷ 32 ∷ 57 ∷ []))
    ∷ (a_price ++ (97 ∷ 103 ∷ 101 ∷ 110 ∷ 116 ∷ 32 ∷ 49 ∷ 32 ∷ 49 ∷ 32 ∷ 50 ∷ 32 ∷ 51 ∷ 32 ∷ 52 ∷ 32 ∷ 53 ∷ 32 ∷ 54 ∷ 32 ∷ 55 ∷ []))
    ∷ (a_price ++ a_plant ++ a_plant)
    ∷ (a_price ++ an_agent ++ a_plant ++ a_contract ++ a_price)
    ∷ (a_price ++ a_plant ++ (112 ∷ 108 ∷ 97 ∷ 110 ∷ 116 ∷ 32 ∷ 48 ∷ 32 ∷ 49 ∷ 10 ∷ 112 ∷ 108 ∷ 97 ∷ 110 ∷ 116 ∷ 32 ∷ 48 ∷ []))
    ∷ (a_price ++ a_plant ++ (112 ∷ 108 ∷ 97 ∷ 110 ∷ 116 ∷ 32 ∷ 48 ∷ 32 ∷ 120 ∷ 10 ∷ 112 ∷ 108 ∷ 97 ∷ 110 ∷ 116 ∷ 32 ∷ 48 ∷ 32 ∷ 56 ∷ []))
    ∷ []

abbrev wrong : (line : ℕ) → Fault → Result ℕ WrongLine
wrong n f = Err (record { line = n; fault = f })

-- in order: in the paper's order; in another, with a comment, CR LF and an empty line; nothing; no price, which is told at the last
-- line, the empty one behind the last LF; no plant; a word of sheets; the same with no number behind it; another word; too few
-- numbers; no money; too many; a number behind the money; too few, in a row that the sheet has not; too many there; a sign before a
-- number that has none, there; money with its sign behind it; one more than 32 bits hold; 10^18 below 0; the second plant of one;
-- the second contract of one; the second agent of one, though a plant has that place; a plant twice, the same both times; the price
-- twice; twice, before a line with too few; a row again, with what is no number
answers : map (statement_of (counted 1 1 1) before) texts
    ≡ Ok 5
    ∷ Ok 5
    ∷ wrong 1 Fault.Missing
    ∷ wrong 4 Fault.Missing
    ∷ wrong 4 Fault.Missing
    ∷ wrong 2 Fault.Word
    ∷ wrong 1 Fault.Word
    ∷ wrong 2 Fault.Word
    ∷ wrong 3 Fault.Few
    ∷ wrong 1 Fault.Few
    ∷ wrong 1 Fault.Many
    ∷ wrong 1 Fault.Many
    ∷ wrong 1 Fault.Few
    ∷ wrong 1 Fault.Many
    ∷ wrong 1 Fault.NotANumber
    ∷ wrong 1 Fault.NotANumber
    ∷ wrong 1 Fault.TooLarge
    ∷ wrong 1 Fault.TooLarge
    ∷ wrong 2 Fault.Rows
    ∷ wrong 2 Fault.Rows
    ∷ wrong 2 Fault.Rows
    ∷ wrong 3 Fault.Twice
    ∷ wrong 5 Fault.Twice
    ∷ wrong 3 Fault.Twice
    ∷ wrong 3 Fault.NotANumber
    ∷ []
unfolding first stop list_to all_digits worth parsed_as parsed owed_as owed_in cut over word_of named
    numbered owing step read_line line_fault asks rows_for rows_ahead row_number row_fault statement_fault with_mark mark_row mark_line
    unmarked marked_in last_fault price_line price_in lists_fit statement_after statement_of
answers = refl

-- the numbers of both that are right, which are the same
abbrev after : Lent
after = lent (1 ∷ 2 ∷ 3 ∷ 4 ∷ 5 ∷ 6 ∷ 96 ∷ []) (negsuc 6 ∷ []) (8 ∷ []) (9 ∷ [])

numbers_read : stated_in ours before ∷ stated_in another before ∷ [] ≡ after ∷ after ∷ []
unfolding all_digits worth parsed_as parsed owed_as owed_in cut over word_of named numbered owing step read_line
    figures_line money_line second_line
numbers_read = refl

-- before any line: two agents in lists for one, 65 agents, and a list too short with a first line that is wrong; and a sheet with no
-- agent, plant or contract, of which there is only the price to tell
first_of_all : statement_of (counted 2 1 1) before ours
    ∷ statement_of (counted 65 1 1) before ours
    ∷ statement_of (counted 1 2 1) before (112 ∷ [])
    ∷ statement_of (counted 0 0 0) before (112 ∷ 114 ∷ 105 ∷ 99 ∷ 101 ∷ 32 ∷ 48 ∷ [])
    ∷ []
    ≡ wrong 0 Fault.Rows ∷ wrong 0 Fault.Rows ∷ wrong 0 Fault.Rows ∷ Ok 0 ∷ []
unfolding first stop list_to all_digits worth parsed_as parsed owed_as owed_in cut over word_of named
    numbered owing step read_line line_fault asks rows_for rows_ahead row_number row_fault statement_fault with_mark mark_row mark_line
    unmarked marked_in last_fault price_line price_in lists_fit statement_after statement_of
first_of_all = refl
