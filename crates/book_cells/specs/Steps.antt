-- What the code's steps ask for: nobody need believe this page. Assumes nothing.
use Rattle.std.specs.Prelude.{Ok}
use Rattle.std.specs.Prelude.{ℕ, ◌≤◌, ◌<◌, true, ◌≡◌, List, length}
use Rattle.refusals.specs.Refusals.{Verdict}
use Rattle.book.specs.Book.{hours, Place, Proper}
use Rattle.book_cells.specs.Cells.{all_cells, looked_good}

-- the cells are enough, could be a book's, and the new place is within its limits
pub record Turnable (l : List ℕ) (h : ℕ) (p : Place) : Type 0 where
  pub room : all_cells ≤ length l
  pub hour : h < hours
  pub looked : looked_good l h ≡ true
  pub proper : Proper p

-- what a call's own verdict passes is an hour of the day, and a place within its limits
abbrev pub OwnGood : Verdict → ℕ → Place → Type 0
OwnGood own h p = own ≡ Ok tt → (h < hours) × Proper p
