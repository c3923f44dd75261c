-- The lists that are printed are the fronts of what was written, which are the lines that the columns make.
use Rattle.std.proofs.Common.{◌≤◌, length, refl, pos, arith}
use Rattle.sums.proofs.Fill.{filled_front}
use Rattle.page.proofs.Paged.{printed_columns}
use Rattle.page.proofs.print_lines.Goals as goal

pub returns : goal.returns
returns c =
    let a = c.args in
    let l = c.write_lines.ensures in
    let few = c.requires.n_le_most_agents.0 in
    let long : a.n ≤ length a.kinds.now = omega (arith, few) in
    printed_columns a.s a.n a.kinds.now a.shares.now a.own.now a.imports.now a.held.now few long _ _ _ _ _ _ refl
    (filled_front 0 _ _ _ _ (omega (arith, few)) l.filled) (filled_front (pos 0) _ _ _ _ few l.filled_2) c.print.ensures
