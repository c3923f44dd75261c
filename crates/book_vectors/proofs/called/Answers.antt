-- A call leaves a true book true.
use Rattle.std.proofs.Common.{slice_index}
use Rattle.book.proofs.True.{entered_kept, removed_kept}
use Rattle.book_vectors.proofs.called.Goals as goal

pub returns-then-what-eq2 : goal.returns-then-what-eq2
returns-then-what-eq2 c = removed_kept c.args.held c.requires (slice_index c.args.call.now 1) c.without_hour.ensures

pub returns : goal.returns
returns c =
    let n = slice_index c.args.call.now in
    entered_kept c.args.held c.requires (n 1) (n 2) (n 3) (n 4) (n 5) c.with_hour.ensures
