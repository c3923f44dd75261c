-- An empty book is true.
use Rattle.std.proofs.Common.{sym, subst}
use Rattle.book.specs.Book.{Kept}
use Rattle.book.proofs.True.{empty_kept}
use Rattle.book_vectors.proofs.run_calls.Goals as goal

pub loop-init : goal.loop-init
loop-init g c = subst Kept (sym c.empty-held.ensures) empty_kept
