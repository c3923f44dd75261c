use Rattle.std.proofs.Common.{[], arith}
use Rattle.page.proofs.Paged.{print_fine}
use Rattle.page.proofs.refused_page.Goals as goal

pub returns : goal.returns
returns c = rw (print_fine [] [] [] _ _ (omega arith) (omega arith) (omega arith)) at c.print.ensures
