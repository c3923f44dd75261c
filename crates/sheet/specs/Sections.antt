-- How the code goes over the rows, one section after the other: the rows and tests are those of the page Reading, and the law
-- `read_rows` says that the verdict is. Assumes nothing.
use Rattle.std.specs.Prelude.{ℕ, ◌+◌, ◌*◌, ◌<◌, Bool, true, ◌&&◌, List, [], ◌∷◌, ◌≡◌, length}
use Rattle.refusals.specs.Refusals.{refused_unless, first_of, first_bad}
use Rattle.refusals.specs.Refusals.{Verdict}
use Rattle.octets.specs.Bytes.{words_at}
use Rattle.rows.specs.Rows.{agent_of, boundary_of, plant_of, contract_of, agent_blank}
use Rattle.rows.specs.Rows.{boundary_blank, agent_good, boundary_good, plant_good, contract_good}
use Rattle.octets.specs.declared.Words.{Words}
use Rattle.sheet.specs.Reading.{trailer_start, sheet_length, kind_at}
use Rattle.sheet.specs.Asking.{by_section, rows_in, rows_before}
use Rattle.sheet.specs.declared.Counts.{Counts}

-- what the code's sums ask for: four 32-bit counts can be added up, and a row's number can stand in a refusal
abbrev pub Addable : Counts → Type 0
Addable c = trailer_start c < 4 * 4294967296

abbrev pub Placeable : ℕ → Type 0
Placeable n = n < 4294967296

-- what cutting the sections out of the bytes asks for
abbrev pub Laid : List ℕ → Counts → Type 0
Laid s c = (length s ≡ sheet_length c) × Placeable (trailer_start c)

-- the kind of agent a by the agents' section: a row past the last is all zeros
abbrev pub kind_in : (agents : List ℕ) → ℕ → ℕ
kind_in agents a = (agent_of (words_at agents a)).kind

-- whether a row is good, by its numbers and the kinds of the agents
abbrev pub agent_row_good : Words → Bool
agent_row_good w = agent_blank w && agent_good (agent_of w)

abbrev pub boundary_row_good : (kind : ℕ → ℕ) → Words → Bool
boundary_row_good kind w = boundary_blank w && boundary_good (kind (boundary_of w).agent) (boundary_of w)

abbrev pub plant_row_good : (kind : ℕ → ℕ) → Words → Bool
plant_row_good kind w = plant_good (kind (plant_of w).agent) (plant_of w)

abbrev pub contract_row_good : (kind : ℕ → ℕ) → Words → Bool
contract_row_good kind w = contract_good (kind (contract_of w).seller) (kind (contract_of w).buyer) (contract_of w)

unfoldable pub section_row_good : (kind : ℕ → ℕ) → ℕ → Words → Bool
section_row_good kind k w =
    by_section k (agent_row_good w) (boundary_row_good kind w) (plant_row_good kind w) (contract_row_good kind w) true

-- what row i of section k is told: sections 1 to 4 have refusals 3 to 6 (`read_rows` ties them to the page Reading)
abbrev pub row_told : (kind : ℕ → ℕ) → (k : ℕ) → Words → (i : ℕ) → Verdict
row_told kind k w i = refused_unless (section_row_good kind k w) (k + 2) i

abbrev pub told_in : (agents section : List ℕ) → (k i : ℕ) → Verdict
told_in agents section k i = row_told (kind_in agents) k (words_at section i) i

unfoldable pub row_verdict : List ℕ → Counts → ℕ → ℕ → Verdict
row_verdict s c k i = row_told (kind_at s c) k (words_at s (rows_before c k + i)) i

unfoldable pub section_verdict : List ℕ → Counts → ℕ → Verdict
section_verdict s c k = first_bad (row_verdict s c k) 0 (rows_in c k)

unfoldable pub rows_verdict : List ℕ → Counts → Verdict
rows_verdict s c =
    first_of (section_verdict s c 1 ∷ section_verdict s c 2 ∷ section_verdict s c 3 ∷ section_verdict s c 4 ∷ [])
