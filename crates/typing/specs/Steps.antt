-- How far a text may be when a line more is read, and what is put into a scratch when one is written: no part of the meaning.
-- Assumes nothing.
use Rattle.std.specs.Prelude.{is_some}
use Rattle.std.specs.Prelude.{ℕ, ◌+◌, ◌*◌, ◌≤◌, ◌<◌, ◌≡◌, false, List, length, take, drop}
use Rattle.limits.specs.Limits.{most_agents, most_boundaries, most_plants, most_contracts}
use Rattle.octets.specs.Bytes.{words_at}
use Rattle.octets.specs.declared.Words.{Words}
use Rattle.sheet.specs.declared.Counts.{Counts}
use Rattle.printing.specs.Text.{lines_to}
use Rattle.printing.specs.Put.{PutInRoom}
use Rattle.text.specs.Written.{row_text}
use Rattle.writing.specs.Numbers.{Numbers}
use Rattle.typing.specs.Rows.{sheet_rooms, scanned, listed}
use Rattle.typing.specs.Text.{word_for, row_typed}
use Rattle.typing.specs.declared.Scan.{Scan}

-- no section has more rows than lines were read
abbrev pub Sparse : Scan → Type 0
Sparse j =
    (j.counts.agents ≤ j.line) × (j.counts.boundaries ≤ j.line) × (j.counts.plants ≤ j.line)
    × (j.counts.contracts ≤ j.line)

-- and one line more can be counted
pub record Scannable (j : Scan) : Type 0 where
  pub line : j.line < 18446744073709551615
  pub sparse : Sparse j

-- the bytes of the longest row, a word of 8, five numbers of 21 with their spaces and the line end, and of all that a sheet may have
abbrev pub row_room : ℕ
row_room = 114

abbrev pub text_room : ℕ
text_room = row_room * (most_agents + most_boundaries + most_plants + most_contracts)

-- a row of section k in front of what stands from `at` on,
abbrev pub RowPut : (k : ℕ) (w : Words) (before after : List ℕ) (at r : ℕ) → Type 0
RowPut k w before after at r = PutInRoom (row_text (word_for k) (row_typed k w) (drop at before)) before after at row_room r

-- and n rows, the first of which is row `start` of a sheet
abbrev pub RowsPut : (k : ℕ) (sheet : List ℕ) (start n : ℕ) (before after : List ℕ) (at r : ℕ) → Type 0
RowsPut k sheet start n before after at r =
    PutInRoom (lines_to (λ i. row_text (word_for k) (row_typed k (words_at sheet (start + i)))) n (drop at before)) before after at
    (row_room * n) r

-- no line of a text is wrong, and these lists, of at least so many rows, have its numbers at their fronts
pub record Fronts (text : List ℕ) (c : Counts) (n : Numbers) : Type 0 where
  pub fine : is_some (scanned sheet_rooms text).fault ≡ false
  pub few_agents : c.agents ≤ length n.agents
  pub few_boundaries : 4 * c.boundaries ≤ length n.boundaries
  pub few_plants : 5 * c.plants ≤ length n.plants
  pub few_contracts : 5 * c.contracts ≤ length n.contracts
  pub agents : take c.agents n.agents ≡ listed 1 text
  pub boundaries : take (4 * c.boundaries) n.boundaries ≡ listed 2 text
  pub plants : take (5 * c.plants) n.plants ≡ listed 3 text
  pub contracts : take (5 * c.contracts) n.contracts ≡ listed 4 text
