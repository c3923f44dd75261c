-- What the parts of a page hand on to each other. Assumes nothing.
use Rattle.std.specs.Prelude.{Ok}
use Rattle.std.specs.Prelude.{ℕ, ◌*◌, List, ◌≡◌}
use Rattle.sums.specs.Lists.{at, list_to}
use Rattle.columns.specs.Columns.{hour_of, sheet_verdict}
use Rattle.hour.specs.Lines.{cells_per_agent}
use Rattle.hour.specs.Answer.{summary_of}
use Rattle.hour.specs.declared.Summary.{Summary}
use Rattle.lines.specs.Lines.{line_cell, line_money}
use Rattle.settle.specs.Parts.{LineColumns}
use Rattle.printing.specs.Page.{page_of}

-- the hour of the bytes in columns: its summary r, and where nothing turns it away what the lines of its n agents are made of
pub record HourColumns (bytes : List ℕ) (n : ℕ) (ks ss os is cs : List ℕ) (r : Summary) : Type 0 where
  pub answered : r ≡ summary_of (sheet_verdict bytes) (hour_of bytes)
  pub columns : sheet_verdict bytes ≡ Ok tt → LineColumns (hour_of bytes) n ks ss os is cs

-- the page with the lines that these columns make
abbrev pub columns_text : Summary → (n : ℕ) (kinds shares own imports held : List ℕ) → List ℕ
columns_text r n ks ss os is cs =
    page_of r (list_to (at ks) n) (list_to (line_cell ks ss os is cs) (cells_per_agent * n)) (list_to (line_money ks os is cs r.price) n)
