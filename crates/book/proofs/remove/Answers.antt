-- The slot is a place of the book, the totals have room for a removal there, and what is told of it is the book's.
use Rattle.book.specs.Book.{slot_verdict, blank}
use Rattle.book.specs.Told.{slot_of}
use Rattle.book.proofs.Laws.{kept_carries, slot_within, told_does, fine_hour}
use Rattle.book.proofs.remove.Goals as goal

pub removing-told-requires : goal.removing-told-requires
removing-told-requires c =
    rw c.slot-at.ensures (kept_carries c.args.book.now c.requires (slot_of c.args.hour) (slot_within c.args.hour))

pub returns : goal.returns
returns c =
    let a = c.args in
    let v = slot_verdict a.hour in
    rw (c.removing-told.ensures, c.slot-at.ensures)
    (told_does a.book.now a.hour blank v (fine_hour a.hour))
