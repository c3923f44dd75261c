-- By the first a agents both columns are done and both sums are theirs.
use Rattle.std.proofs.Common.{◌≡◌, ◌+◌}
use Rattle.sums.specs.Sums.{sum}
use Rattle.sums.specs.Lists.{Filled}
use Rattle.balance.specs.Parts.{with_share, of_small}
use Rattle.balance.proofs.add_shares.Given as goal

abbrev pub invariant-loop-a : goal.invariant-loop-a
invariant-loop-a l = record {
  commercial : Filled 0 l.fn.commercial l.commercial l.a (with_share l.fn.commercial l.shares);
  own : Filled 0 l.fn.own l.own l.a (λ k. with_share l.fn.commercial l.shares k + of_small l.kinds l.fn.own k);
  all : l.all ≡ sum l.a (with_share l.fn.commercial l.shares);
  small : l.small ≡ sum l.a (of_small l.kinds l.fn.own);
}
