-- What reading the text of a statement into four lent lists promises. Assumes nothing.
use Rattle.std.specs.Prelude.{Result, Ok, Err}
use Rattle.std.specs.Prelude.{ℕ, ◌*◌, ◌≡◌, Bool, cond, ◌&&◌, List, length, leb}
use Rattle.sheet.specs.Reading.{counts_good}
use Rattle.sheet.specs.declared.Counts.{Counts}
use Rattle.hour.specs.Lines.{cells_per_agent}
use Rattle.hour.specs.Answer.{Lent}
use Rattle.text.specs.Lines.{lines, over}
use Rattle.text.specs.Faults.{unless_wrong}
use Rattle.text.specs.declared.Fault.{Fault}
use Rattle.text.specs.declared.WrongLine.{WrongLine}
use Rattle.stating.specs.Rows.{Marked, marked_in, last_fault, figures_line, money_line, second_line, price_in}

-- the counts are within a sheet's limits, and the lists have a cell for each number of the statement
unfoldable pub lists_fit : Counts → Lent → Bool
lists_fit c l =
    counts_good c && leb (cells_per_agent * c.agents) (length l.figures) && leb c.agents (length l.money)
    && leb c.plants (length l.schedule) && leb c.contracts (length l.amounts)

-- the price where all is read, or the line that is wrong and how
unfoldable pub statement_after : Marked → List ℕ → Result ℕ WrongLine
statement_after j text = unless_wrong j.line (last_fault j) (price_in text)

-- before any line: the counts and the lists
unfoldable pub statement_of : Counts → Lent → List ℕ → Result ℕ WrongLine
statement_of c before text =
    cond (lists_fit c before) (statement_after (marked_in c text) text) (Err (record { line = 0; fault = Fault.Rows }))

-- the four lists with the numbers of the text
abbrev pub stated_in : List ℕ → Lent → Lent
stated_in text l =
    record {
      figures = over figures_line l.figures (lines text);
      money = over money_line l.money (lines text);
      schedule = over (second_line 3) l.schedule (lines text);
      amounts = over (second_line 4) l.amounts (lines text);
    }

-- where the answer is a price; else as they were
unfoldable pub lists_after : Result ℕ WrongLine → List ℕ → Lent → Lent
lists_after (Ok p) text l = stated_in text l
lists_after (Err w) text l = l

pub record StatementInto (text : List ℕ) (c : Counts) (before : Lent) (r : Result ℕ WrongLine) (after : Lent) : Type 0 where
  pub answer : r ≡ statement_of c before text
  pub lists : after ≡ lists_after r text before
