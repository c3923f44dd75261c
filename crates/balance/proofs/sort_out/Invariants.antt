-- By the first a agents the columns and the sums are what their rows and the exact columns give, and where `any` is false none of them
-- delivers too much.
use Rattle.std.proofs.Common.{◌≡◌, ℕ, ◌<◌, false}
use Rattle.sums.specs.Sums.{sum}
use Rattle.sums.specs.Lists.{Filled}
use Rattle.balance.proofs.Agents.{kind_of, taken_of, used_of, over_of}
use Rattle.balance.proofs.sort_out.Given as goal

abbrev pub invariant-loop-a : goal.invariant-loop-a
invariant-loop-a l = record {
  kinds : Filled 0 l.fn.kinds l.kinds l.a (kind_of l.section);
  taken : Filled 0 l.fn.taken l.taken l.a (taken_of l.section l.imports);
  given : Filled 0 l.fn.given l.given l.a (taken_of l.section l.exports);
  used : Filled 0 l.fn.used l.used l.a (used_of l.section l.imports l.exports);
  none : l.any ≡ false → (k : ℕ) → k < l.a → over_of l.section l.imports l.exports k ≡ false;
  entering : l.entering ≡ sum l.a (taken_of l.section l.exports);
  consumed : l.consumed ≡ sum l.a (used_of l.section l.imports l.exports);
  drawn : l.drawn ≡ sum l.a (taken_of l.section l.imports);
}
