use native.Mathlib.Nat.{add-sub_cancel_left}
use Rattle.book_cells.proofs.Put.{put_copied}
use Rattle.book_cells.proofs.put_at.Goals as goal

pub returns : goal.returns
returns c =
    rw (add-sub_cancel_left, c.copy_from_slice.ensures.after)
    (put_copied c.args.cells.now c.args.start c.args.numbers.now c.requires)
