-- Document 02, P8: what a day's book holds of a settled hour, from its sheet, the summary and the agents' figures. Assumes nothing.
use Rattle.std.specs.Prelude.{Result, Ok, Err}
use Rattle.sheet.specs.declared.Counts.{Counts}
use Rattle.refusals.specs.declared.Refusal.{Refusal}
use Rattle.book.specs.declared.Hour.{Hour}
use Rattle.std.specs.Prelude.{ℕ, ◌+◌, ◌*◌, min, cond, List, eqb}
use Rattle.sums.specs.Sums.{sum}
use Rattle.sums.specs.Lists.{at}
use Rattle.refusals.specs.Refusals.{refusal}
use Rattle.sheet.specs.Counting.{counting_of}
use Rattle.hour.specs.Lines.{cells_per_agent}
use Rattle.hour.specs.declared.Summary.{Summary}
use Rattle.book.specs.Book.{hour_with}

-- the agents of a sheet whose rows are counted; none where they can't be
abbrev pub agents_counted : Result Counts Refusal → ℕ
agents_counted (Ok c) = c.agents
agents_counted (Err r) = 0

-- what n agents bought: the fifth of each one's cells
unfoldable pub bought_in_all : List ℕ → ℕ → ℕ
bought_in_all figures n = sum n (λ a. at figures (cells_per_agent * a + 4))

-- the greatest 32-bit number, which no book takes: what has more bits is handed on as this
abbrev pub most_word : ℕ
most_word = 4294967295

-- the entry of an hour: its numbers where it is settled, the refusal where it is refused
abbrev pub entry_of : (sheet : List ℕ) → Summary → (figures : List ℕ) → Result Hour Refusal
entry_of sheet r figures =
    cond (eqb r.number 0)
    (Ok (hour_with r.demand r.losses (min (bought_in_all figures (agents_counted (counting_of sheet))) most_word)
    r.price))
    (Err (refusal r.number r.place))
