-- A sheet made from its text, in a lent buffer: the first line that is wrong, or what writing answers, its refusal of a row told with
-- the row's line. Assumes nothing.
use Rattle.std.specs.Prelude.{Option, Some, None, is_some, Result, Ok, Err}
use Rattle.std.specs.Prelude.{ℕ, ◌+◌, ◌-◌, ◌≡◌, cond, not, ◌&&◌, List, [], ◌∷◌, length, leb, eqb}
use Rattle.sums.specs.Lists.{Filled}
use Rattle.sums.specs.Sums.{pick}
use Rattle.refusals.specs.Refusals.{bad_agent, bad_contract, cells}
use Rattle.refusals.specs.declared.Refusal.{Refusal}
use Rattle.octets.specs.Bytes.{byte_of}
use Rattle.sheet.specs.Reading.{sheet_length}
use Rattle.text.specs.declared.Fault.{Fault}
use Rattle.text.specs.Lines.{lines, read_line}
use Rattle.writing.specs.Numbers.{counts_in}
use Rattle.writing.specs.Words.{sheet_row}
use Rattle.writing.specs.Judged.{write_verdict, writing}
use Rattle.typing.specs.Rows.{sheet_rooms, scanned, numbers_in}
use Rattle.typing.specs.declared.Unmade.{Unmade}

-- ---- the line of a row of section k behind `line` lines, with `left` rows of the section still to pass; 0 where there is none
unfoldable pub line_from : (k left line : ℕ) → List (List ℕ) → ℕ
line_from k left line [] = 0
line_from k left line (x ∷ xs) =
    let mine = eqb (read_line x).word k in
    cond (mine && eqb left 0) (line + 1) (line_from k (left - pick mine 1) (line + 1) xs)

-- row i of section k stands on this line, from 1
unfoldable pub line_of_row : (k i : ℕ) → List ℕ → ℕ
line_of_row k i text = line_from k i 0 (lines text)

-- the line that a refusal of writing speaks of: refusals 3 to 6 are of a row of sections 1 to 4, any other of none
unfoldable pub refused_line : List ℕ → Refusal → ℕ
refused_line text r =
    cond (leb bad_agent r.number && leb r.number bad_contract) (line_of_row (r.number - 2) r.place text) 0

-- ---- what making a sheet answers
abbrev pub made_by : Result ℕ Refusal → List ℕ → Result ℕ Unmade
made_by (Ok n) text = Ok n
made_by (Err r) text = Err (Unmade.Refused (refused_line text r) r)

abbrev pub writing_in : (text : List ℕ) (room : ℕ) → Result ℕ Refusal
writing_in text room = writing (write_verdict (numbers_in text) room) (sheet_length (counts_in (numbers_in text)))

-- the last line read, where it is wrong, and else what writing answers
abbrev pub made_of : (line : ℕ) → Option Fault → Result ℕ Unmade → Result ℕ Unmade
made_of line None m = m
made_of line (Some f) m = Err (Unmade.Wrong (record { line = line; fault = f }))

unfoldable pub made : (text : List ℕ) (room : ℕ) → Result ℕ Unmade
made text room =
    let j = scanned sheet_rooms text in made_of j.line j.fault (made_by (writing_in text room) text)

-- the sheet's bytes at the front of the buffer; none is written where a line is wrong or writing refuses
abbrev pub made_cells : (text : List ℕ) (room : ℕ) → ℕ
made_cells text room =
    pick (not (is_some (scanned sheet_rooms text).fault))
    (cells (write_verdict (numbers_in text) room) (sheet_length (counts_in (numbers_in text))))

pub record MadeInto (text before : List ℕ) (r : Result ℕ Unmade) (after : List ℕ) : Type 0 where
  pub answer : r ≡ made text (length before)
  pub bytes : Filled 0 before after (made_cells text (length before)) (byte_of (sheet_row (numbers_in text)))
