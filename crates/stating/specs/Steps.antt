-- How far a text may be when a line more is read: no part of the meaning. Assumes nothing.
use Rattle.std.specs.Prelude.{ℕ, ◌≤◌, ◌≡◌, List, length}
use Rattle.hour.specs.Answer.{Lent}
use Rattle.sheet.specs.declared.Counts.{Counts}
use Rattle.text.specs.declared.Line.{Line}
use Rattle.stating.specs.Rows.{Marked, all_rows, figures_from, money_from, second_from}
use Rattle.stating.specs.declared.Seen.{Seen}

-- what was read of the lines, with the marks that stand beside it
abbrev pub seen : Seen → (marks : List ℕ) → Marked
seen j marks = record { line = j.line; fault = j.fault; marks = marks }

-- a mark a row, and not too many of them to count
pub record MarksFit (c : Counts) (marks : List ℕ) : Type 0 where
  pub long : length marks ≡ all_rows c
  pub few : all_rows c ≤ 385

-- the four lists with the numbers of a line
abbrev pub with_line : Line → Lent → Lent
with_line l b =
    record {
      figures = figures_from l b.figures;
      money = money_from l b.money;
      schedule = second_from 3 l b.schedule;
      amounts = second_from 4 l b.amounts;
    }
