-- What reading the text of a sheet into four lent lists promises. Assumes nothing.
use Rattle.std.specs.Prelude.{is_some}
use Rattle.std.specs.Prelude.{ℕ, ◌≡◌, not, List, length}
use Rattle.sums.specs.Lists.{at, Filled}
use Rattle.sums.specs.Sums.{pick}
use Rattle.writing.specs.Numbers.{Numbers, counts_in}
use Rattle.typing.specs.Rows.{scanned, listed}
use Rattle.typing.specs.declared.Scan.{Scan}

-- how many cells of a list are written: all of these, or none where a line is wrong
abbrev pub cells_of : Scan → List ℕ → ℕ
cells_of j l = pick (not (is_some j.fault)) (length l)

-- the lists have room for as many rows as they have whole rows. What is past the numbers keeps its values
pub record ReadInto (text : List ℕ) (before : Numbers) (r : Scan) (after : Numbers) : Type 0 where
  pub answer : r ≡ scanned (counts_in before) text
  pub agents : Filled 0 before.agents after.agents (cells_of r (listed 1 text)) (at (listed 1 text))
  pub boundaries : Filled 0 before.boundaries after.boundaries (cells_of r (listed 2 text)) (at (listed 2 text))
  pub plants : Filled 0 before.plants after.plants (cells_of r (listed 3 text)) (at (listed 3 text))
  pub contracts : Filled 0 before.contracts after.contracts (cells_of r (listed 4 text)) (at (listed 4 text))
