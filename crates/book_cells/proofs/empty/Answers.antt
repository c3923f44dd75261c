use Rattle.std.proofs.Common.{◌≤◌, length, sym, ◌∙◌, rules}
use borrow.Author.Tests.{leb-true, le-leb}
use Rattle.refusals.proofs.Fine.{fine_test}
use Rattle.book_cells.specs.Cells.{all_cells}
use Rattle.book_cells.proofs.Put.{zeros_front}
use Rattle.book_cells.proofs.empty.Goals as goal

pub slice_bounds-fill-end-2 : goal.slice_bounds-fill-end-2
slice_bounds-fill-end-2 c =
    let room : all_cells ≤ length c.args.cells.now
    = leb-true _ _ (fine_test _ _ _ (sym c.room_verdict.ensures ∙ c.in_ok-room_verdict.was)) in
    search rules

pub returns : goal.returns
returns c =
    let room : all_cells ≤ length c.args.cells.now
    = leb-true _ _ (fine_test _ _ _ (sym c.room_verdict.ensures ∙ c.in_ok-room_verdict.was)) in
    let filled = c.fill.ensures.after (λ y e. e) in
    record {
      answer = rw (le-leb _ _ room);
      zeros = rw (le-leb _ _ room, filled) (zeros_front _ _ room);
    }
