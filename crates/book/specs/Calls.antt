-- Any sequence of calls from an empty book. Assumes nothing.
use Rattle.std.specs.Prelude.{ℕ, List, [], ◌∷◌}
use Rattle.book.specs.declared.Book.{Book}
use Rattle.book.specs.Book.{entered, removed}

pub data Call : Type 0 where
  enter : (h demand losses bought price : ℕ) → Call
  remove : (h : ℕ) → Call

-- the book after one call, and after several in their order
unfoldable pub called : Book → Call → Book
called b (enter h demand losses bought price) = entered b h demand losses bought price
called b (remove h) = removed b h

unfoldable pub after : Book → List Call → Book
after b [] = b
after b (c ∷ cs) = after (called b c) cs
