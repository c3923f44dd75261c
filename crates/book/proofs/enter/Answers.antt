-- The slot is a place of the book, the totals have room for what is entered there, and what is told of it is the book's.
use Rattle.book.specs.Book.{entry_verdict, holding}
use Rattle.book.specs.Told.{slot_of}
use Rattle.book.proofs.Laws.{kept_carries, slot_within, told_does, entry_hour}
use Rattle.book.proofs.enter.Goals as goal

pub entering-told-requires : goal.entering-told-requires
entering-told-requires c =
    rw c.slot-at.ensures (kept_carries c.args.book.now c.requires (slot_of c.args.hour) (slot_within c.args.hour))

pub returns : goal.returns
returns c =
    let a = c.args in
    let v = entry_verdict a.hour a.demand a.losses a.bought a.price in
    rw (c.entering-told.ensures, c.slot-at.ensures)
    (told_does a.book.now a.hour (holding a.demand a.losses a.bought a.price) v (entry_hour a.hour a.demand a.losses a.bought a.price))
