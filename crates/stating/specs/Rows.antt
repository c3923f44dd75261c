-- An administrator's statement of an hour as text: `price P`, `agent N SHARE OWN IMPORT CONTRACTED BOUGHT SOLD MONEY`,
-- `plant N SCHEDULE`, `contract N AMOUNT`, where N is the number of a row of the sheet, counted from 0 in its section. Each row of the
-- sheet has one line, and so has the price, in any order. Assumes nothing.
use Rattle.std.specs.Prelude.{Option, Some, None, is_some}
use Rattle.std.specs.Option.{option_or}
use Rattle.std.specs.Prelude.{ℕ, ◌+◌, ◌*◌, Bool, not, cond, ◌||◌, List, ℤ, length, drop, set, leb, ltb, eqb}
use Rattle.std.proofs.lemmas.List.Edits.{sets}
use Rattle.sums.specs.Sums.{first}
use Rattle.sums.specs.Lists.{at, list_to}
use Rattle.hour.specs.Lines.{cells_per_agent}
use Rattle.sheet.specs.declared.Counts.{Counts}
use Rattle.text.specs.Lines.{lines, over, read_line, line_fault}
use Rattle.text.specs.declared.Fault.{Fault}
use Rattle.text.specs.declared.Line.{Line}

-- ---- the words of a statement; `boundary` is none of them, nor is the 0 of a line without a word
abbrev pub by_word : {A : Type 0} → ℕ → (agent plant contract price none : A) → A
by_word k a p c x none = cond (eqb k 1) a (cond (eqb k 3) p (cond (eqb k 4) c (cond (eqb k 5) x none)))

-- how many numbers are behind it
unfoldable pub asks : ℕ → ℕ
asks k = by_word k 8 2 2 1 0

-- how many rows have it, and how many stand before them where the price is the first
unfoldable pub rows_for : Counts → ℕ → ℕ
rows_for c k = by_word k c.agents c.plants c.contracts 1 0

unfoldable pub rows_ahead : Counts → ℕ → ℕ
rows_ahead c k = by_word k 1 (1 + c.agents) (1 + c.agents + c.plants) 0 0

abbrev pub all_rows : Counts → ℕ
all_rows c = 1 + c.agents + c.plants + c.contracts

-- which row of its section a line is about, and which of all rows
unfoldable pub row_number : Line → ℕ
row_number l = cond (eqb l.word 5) 0 (at l.numbers 0)

abbrev pub row_place : Counts → Line → ℕ
row_place c l = rows_ahead c l.word + row_number l

-- ---- the lines one after the other: how many were read, what is wrong with the last of them, and a mark for each row that had its line
pub record Marked : Type 0 where
  pub line : ℕ
  pub fault : Option Fault
  pub marks : List ℕ

-- a line about a row that the sheet has not, or that had its line already
unfoldable pub row_fault : Counts → (marks : List ℕ) → Line → Option Fault
row_fault c marks l =
    cond (ltb (row_number l) (rows_for c l.word)) (cond (eqb (at marks (row_place c l)) 0) None (Some Fault.Twice))
    (Some Fault.Rows)

-- a line by itself, then its row; a line without a word is about none
unfoldable pub statement_fault : Counts → (marks : List ℕ) → Line → Option Fault
statement_fault c marks l =
    option_or (line_fault (not (eqb l.word 2)) (asks l.word) l)
    (cond (eqb l.word 0) None (row_fault c marks l))

unfoldable pub with_mark : Counts → (marks : List ℕ) → Line → List ℕ
with_mark c marks l =
    cond (is_some (statement_fault c marks l) || eqb l.word 0) marks (set marks (row_place c l) 1)

unfoldable pub mark_row : Counts → Marked → Line → Marked
mark_row c j l =
    record { line = j.line + 1; fault = statement_fault c j.marks l; marks = with_mark c j.marks l }

-- the first line that is wrong ends it
unfoldable pub mark_line : Counts → Marked → List ℕ → Marked
mark_line c j bytes = cond (is_some j.fault) j (mark_row c j (read_line bytes))

unfoldable pub unmarked : Counts → Marked
unmarked c = record { line = 0; fault = None; marks = list_to (λ i. 0) (all_rows c) }

unfoldable pub marked_in : Counts → List ℕ → Marked
marked_in c text = over (mark_line c) (unmarked c) (lines text)

-- where no line is wrong a row can still be missing; it is told at the last line
abbrev pub complete : List ℕ → Bool
complete marks = leb (length marks) (first (length marks) (λ i. eqb (at marks i) 0))

unfoldable pub last_fault : Marked → Option Fault
last_fault j = option_or j.fault (cond (complete j.marks) None (Some Fault.Missing))

-- ---- the numbers: each line puts its own at the place of its row
abbrev pub figures_from : Line → List ℕ → List ℕ
figures_from l ns = cond (eqb l.word 1) (sets ns (cells_per_agent * at l.numbers 0) (drop 1 l.numbers)) ns

abbrev pub money_from : Line → List ℤ → List ℤ
money_from l ns = cond (eqb l.word 1) (set ns (at l.numbers 0) l.money) ns

-- the schedule of plants, word 3, and the amounts of contracts, word 4
abbrev pub second_from : (k : ℕ) → Line → List ℕ → List ℕ
second_from k l ns = cond (eqb l.word k) (set ns (at l.numbers 0) (at l.numbers 1)) ns

unfoldable pub figures_line : List ℕ → List ℕ → List ℕ
figures_line ns bytes = figures_from (read_line bytes) ns

unfoldable pub money_line : List ℤ → List ℕ → List ℤ
money_line ns bytes = money_from (read_line bytes) ns

unfoldable pub second_line : (k : ℕ) → List ℕ → List ℕ → List ℕ
second_line k ns bytes = second_from k (read_line bytes) ns

unfoldable pub price_line : ℕ → List ℕ → ℕ
price_line p bytes = cond (eqb (read_line bytes).word 5) (at (read_line bytes).numbers 0) p

unfoldable pub price_in : List ℕ → ℕ
price_in text = over price_line 0 (lines text)
