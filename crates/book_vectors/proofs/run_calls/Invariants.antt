-- The book is true before each call.
use Rattle.book.specs.Book.{Kept}
use Rattle.book_vectors.proofs.run_calls.Given as goal

abbrev pub invariant-loop : goal.invariant-loop
invariant-loop g l = Kept l.held
