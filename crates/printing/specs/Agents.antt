-- The lines of agents by what the code passes on: nothing here is part of the page's meaning. Assumes nothing.
use Rattle.std.specs.Prelude.{ℕ, List, [], length}
use Rattle.printing.specs.declared.Agents.{Agents}
use Rattle.printing.specs.Text.{lines_to}
use Rattle.printing.specs.Page.{line_of}

abbrev pub line_in : Agents → ℕ → List ℕ → List ℕ
line_in l = line_of l.kinds.now l.figures.now l.money.now

abbrev pub lines_in_all : Agents → List ℕ
lines_in_all l = lines_to (line_in l) (length l.kinds.now) []
