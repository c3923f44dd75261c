-- Our statement of the hour of a sheet, as text. Assumes nothing.
use Rattle.std.specs.Prelude.{ℕ, ◌*◌, List, [], ◌∷◌, length, leb}
use Rattle.sums.specs.Lists.{list_to}
use Rattle.refusals.specs.Refusals.{no_room, refused_unless, first_of}
use Rattle.refusals.specs.Refusals.{Verdict}
use Rattle.sheet.specs.Reading.{counts_of}
use Rattle.columns.specs.Columns.{hour_of, sheet_verdict}
use Rattle.hour.specs.Sheet.{Sheet, agents, plants, contracts}
use Rattle.hour.specs.Lines.{cells_per_agent, figure, money, scheduled, amount, bolsa_price}
use Rattle.hour.specs.Answer.{Lent, lent}
use Rattle.telling.specs.Text.{statement_text}

-- the four lists of a settled hour, with a cell for each row and no more
abbrev pub own_lists : Sheet → Lent
own_lists h =
    lent (list_to (figure h) (cells_per_agent * agents h)) (list_to (money h) (agents h)) (list_to (scheduled h) (plants h))
    (list_to (amount h) (contracts h))

unfoldable pub own_statement : List ℕ → List ℕ
own_statement bytes = statement_text (counts_of bytes) (bolsa_price (hour_of bytes)) (own_lists (hour_of bytes))

-- settling's refusals 1 to 10 and 13, then 11 for a buffer too short
unfoldable pub tell_verdict : List ℕ → (room : ℕ) → Verdict
tell_verdict bytes room = first_of (sheet_verdict bytes ∷ refused_unless (leb (length (own_statement bytes)) room) no_room 0 ∷ [])
