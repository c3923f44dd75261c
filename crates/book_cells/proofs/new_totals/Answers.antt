-- The cells are a book's, so that each total is at least what the hour adds to it, and no more than a day can have.
use Rattle.book_cells.proofs.Turning.{turns_demand, turns_losses, turns_bought, old_fits, turns_money}
use Rattle.book_cells.proofs.new_totals.Goals as goal

pub overflow_mul-old_money : goal.overflow_mul-old_money
overflow_mul-old_money c =
    record { fits = old_fits _ _ _ c.requires _ c.start_of-start.ensures.0 _ _ c.cell-old_bought.ensures c.cell.ensures }

pub new_total-requires : goal.new_total-requires
new_total-requires c =
    turns_demand _ _ _ c.requires _ c.start_of-start.ensures.0 _ _ c.cell-2.ensures
    (rw c.counted-new.ensures at c.from.ensures)

pub new_total-requires-2 : goal.new_total-requires-2
new_total-requires-2 c =
    turns_losses _ _ _ c.requires _ c.start_of-start.ensures.0 _ _ c.cell-3.ensures
    (rw c.counted-new.ensures at c.from-2.ensures)

pub new_total-requires-3 : goal.new_total-requires-3
new_total-requires-3 c =
    turns_bought _ _ _ c.requires _ c.start_of-start.ensures.0 _ _ c.cell-old_bought.ensures
    (rw c.counted-new.ensures at c.from-bought.ensures)

pub new_total-requires-4 : goal.new_total-requires-4
new_total-requires-4 c =
    turns_money _ _ _ c.requires _ c.start_of-start.ensures.0 _ _ c.cell-old_bought.ensures c.cell.ensures _ _
    (rw c.counted-new.ensures at c.from-bought.ensures) (rw c.counted-new.ensures at c.from-3.ensures)
