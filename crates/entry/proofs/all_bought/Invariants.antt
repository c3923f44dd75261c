use Rattle.std.proofs.Common.{◌≡◌, ◌*◌, ◌≤◌}
use Rattle.entry.specs.Entry.{bought_in_all, most_word}
use Rattle.entry.proofs.all_bought.Given as goal

abbrev pub invariant-loop-a : goal.invariant-loop-a
invariant-loop-a l = record {
  sum : l.sum ≡ bought_in_all l.figures l.a;
  most : l.sum ≤ most_word * l.a;
}
