-- Document 01, 'One hour in full': the page of a sheet. Assumes nothing.
use Rattle.std.specs.Prelude.{Result}
use Rattle.refusals.specs.declared.Refusal.{Refusal}
use Rattle.std.specs.Prelude.{ℕ, ◌*◌, List, length, leb}
use Rattle.sums.specs.Lists.{list_to}
use Rattle.refusals.specs.Refusals.{no_room, refused_unless}
use Rattle.columns.specs.Columns.{hour_of, sheet_verdict}
use Rattle.hour.specs.Sheet.{agents}
use Rattle.hour.specs.Lines.{figure, money}
use Rattle.hour.specs.Answer.{summary_of}
use Rattle.printing.specs.Page.{page_of, Prints}

-- what the desk reads of a sheet's bytes: the settled hour with a line an agent, or the refusal; a page brings its own lists, which
-- have room for every sheet
unfoldable pub page_text : List ℕ → List ℕ
page_text bytes =
    let h = hour_of bytes in
    page_of (summary_of (sheet_verdict bytes) h) h.kinds (list_to (figure h) (6 * agents h)) (list_to (money h) (agents h))

-- a text put into a lent buffer: refusal 11 where that is too short for it, and no byte changed
abbrev pub PrintsAll : (text before : List ℕ) → Result ℕ Refusal → (after : List ℕ) → Type 0
PrintsAll text before r after = Prints (refused_unless (leb (length text) (length before)) no_room 0) text before r after
