-- A sheet as text: a line a row, `agent KIND`, `boundary AGENT FACTOR IMPORT EXPORT`, `plant AGENT INFLEXIBLE MUST-RUN PRICE
-- AVAILABILITY`, `contract SELLER BUYER KIND PRICE QUANTITY`. Sections may come in any order; the rows of each number themselves in
-- the order of their lines. Assumes nothing.
use Rattle.std.specs.Prelude.{Option, Some, None, is_some}
use Rattle.std.specs.Option.{option_or}
use Rattle.std.specs.Prelude.{ℕ, ◌+◌, Bool, cond, ◌&&◌, List, [], ◌++◌, take, leb, eqb}
use Rattle.sums.specs.Sums.{pick}
use Rattle.limits.specs.Limits.{most_agents, most_boundaries, most_plants, most_contracts}
use Rattle.sheet.specs.Asking.{by_section}
use Rattle.sheet.specs.declared.Counts.{Counts}
use Rattle.text.specs.Lines.{lines, over, read_line, line_fault}
use Rattle.text.specs.declared.Fault.{Fault}
use Rattle.text.specs.declared.Line.{Line}
use Rattle.writing.specs.Numbers.{Numbers, numbers}
use Rattle.typing.specs.declared.Scan.{Scan}

-- how many numbers a row of section k has
unfoldable pub wants : ℕ → ℕ
wants k = by_section k 1 4 5 5 0

-- what is wrong with a line by itself. A word of statements is not known here
unfoldable pub sheet_fault : Line → Option Fault
sheet_fault l = line_fault (leb l.word 4) (wants l.word) l

-- one row more of section k
unfoldable pub counted_in : Counts → (k : ℕ) → Counts
counted_in c k =
    record {
      agents = c.agents + pick (eqb k 1) 1;
      boundaries = c.boundaries + pick (eqb k 2) 1;
      plants = c.plants + pick (eqb k 3) 1;
      contracts = c.contracts + pick (eqb k 4) 1;
    }

-- no section has more rows than there is room for
abbrev pub within_rooms : (counts rooms : Counts) → Bool
within_rooms c m =
    leb c.agents m.agents && leb c.boundaries m.boundaries && leb c.plants m.plants
    && leb c.contracts m.contracts

-- a sheet has room for as many rows as its sections may have
abbrev pub sheet_rooms : Counts
sheet_rooms = record { agents = most_agents; boundaries = most_boundaries; plants = most_plants; contracts = most_contracts }

-- a line more. The rows counted include that of a line that is wrong
unfoldable pub scan_row : (rooms : Counts) → Scan → Line → Scan
scan_row m j l =
    record {
      line = j.line + 1;
      fault = option_or (sheet_fault l) (cond (within_rooms (counted_in j.counts l.word) m) None (Some Fault.Rows));
      counts = counted_in j.counts l.word;
    }

-- the first line that is wrong ends it
unfoldable pub scan_line : (rooms : Counts) → Scan → List ℕ → Scan
scan_line m j bytes = cond (is_some j.fault) j (scan_row m j (read_line bytes))

abbrev pub unscanned : Scan
unscanned =
    record { line = 0; fault = None; counts = record { agents = 0; boundaries = 0; plants = 0; contracts = 0 } }

-- a text: how many rows of each section it has, or its first line that is wrong and how
unfoldable pub scanned : (rooms : Counts) → List ℕ → Scan
scanned m text = over (scan_line m) unscanned (lines text)

-- the numbers of section k, row after row
unfoldable pub gather_line : (k : ℕ) → List ℕ → List ℕ → List ℕ
gather_line k ns bytes = ns ++ cond (eqb (read_line bytes).word k) (take (wants k) (read_line bytes).numbers) []

unfoldable pub listed : (k : ℕ) → List ℕ → List ℕ
listed k text = over (gather_line k) [] (lines text)

-- the four lists that the sheet is written from
abbrev pub numbers_in : List ℕ → Numbers
numbers_in text = numbers (listed 1 text) (listed 2 text) (listed 3 text) (listed 4 text)
