-- A statement of an hour as text: `price P`, then `agent N SHARE OWN IMPORT CONTRACTED BOUGHT SOLD MONEY`, `plant N SCHEDULE` and
-- `contract N AMOUNT`, a line a row of the sheet, each numbered from 0 in the sheet's order. Assumes nothing.
use Rattle.std.specs.Prelude.{Result}
use Rattle.refusals.specs.declared.Refusal.{Refusal}
use Rattle.std.specs.Prelude.{ℕ, ◌*◌, Bool, ◌&&◌, List, [], ◌∷◌, ◌++◌, length, leb}
use Rattle.refusals.specs.Refusals.{bad_layout, no_room, refused_unless, first_of}
use Rattle.refusals.specs.Refusals.{Verdict}
use Rattle.limits.specs.Limits.{most_agents, most_plants, most_contracts}
use Rattle.sheet.specs.declared.Counts.{Counts}
use Rattle.hour.specs.Lines.{cells_per_agent}
use Rattle.hour.specs.Answer.{Lent, share_in, own_in, import_in, contracted_in, bought_in, sold_in, money_in, schedule_in, amount_in}
use Rattle.printing.specs.Text.{signed, lines_to}
use Rattle.printing.specs.Page.{Prints}
use Rattle.text.specs.Lines.{agent_word, plant_word, contract_word, price_word}
use Rattle.text.specs.Written.{joined, row_text}

-- the numbers of agent a's line before its money
abbrev pub agent_numbers : Lent → ℕ → List ℕ
agent_numbers l a =
    a ∷ share_in l a ∷ own_in l a ∷ import_in l a ∷ contracted_in l a ∷ bought_in l a ∷ sold_in l a ∷ []

-- each line, and what follows it
unfoldable pub agent_line : Lent → ℕ → List ℕ → List ℕ
agent_line l a rest = agent_word ++ joined (agent_numbers l a) (32 ∷ signed (money_in l a) (10 ∷ rest))

abbrev pub plant_line : Lent → ℕ → List ℕ → List ℕ
plant_line l i rest = row_text plant_word (i ∷ schedule_in l i ∷ []) rest

abbrev pub contract_line : Lent → ℕ → List ℕ → List ℕ
contract_line l j rest = row_text contract_word (j ∷ amount_in l j ∷ []) rest

unfoldable pub statement_text : Counts → (price : ℕ) → Lent → List ℕ
statement_text c price l =
    row_text price_word (price ∷ [])
    (lines_to (agent_line l) c.agents (lines_to (plant_line l) c.plants (lines_to (contract_line l) c.contracts [])))

-- ---- writing it into a lent buffer: refusal 2 for counts over their limits or lists too short for them, 11 for a buffer too short
unfoldable pub lists_serve : Counts → (figures money schedule amounts : ℕ) → Bool
lists_serve c f m s t =
    (leb c.agents most_agents && leb c.plants most_plants && leb c.contracts most_contracts)
    && (leb (cells_per_agent * c.agents) f && leb c.agents m && leb c.plants s && leb c.contracts t)

unfoldable pub statement_verdict : Counts → Lent → (size room : ℕ) → Verdict
statement_verdict c l size room =
    first_of (refused_unless
    (lists_serve c (length l.figures) (length l.money) (length l.schedule) (length l.amounts))
    bad_layout
    0
    ∷ refused_unless (leb size room) no_room 0
    ∷ [])

-- the promise of writing it, into a buffer that holds `before`
abbrev pub StatementWritten : Counts → (price : ℕ) → Lent → (before : List ℕ) → Result ℕ Refusal → (after : List ℕ) → Type 0
StatementWritten c price l before r after =
    Prints (statement_verdict c l (length (statement_text c price l)) (length before)) (statement_text c price l) before r after
