-- What agents bought, one agent more. Assumes nothing.
use Prim.Native.Nat.{ℕ, ◌+◌, ◌*◌}
use mathlib.Core.Path.{◌≡◌}
use mathlib.Core.List.{List}
use Rattle.sums.specs.Lists.{at}
use Rattle.sums.proofs.Sums.{sum_none, sum_step}
use Rattle.hour.specs.Lines.{cells_per_agent}
use Rattle.entry.specs.Entry.{bought_in_all}

module _ (figures : List ℕ) where
  pub bought_none : bought_in_all figures 0 ≡ 0
  unfolding bought_in_all
  bought_none = sum_none (λ a. at figures (cells_per_agent * a + 4))

  pub bought_more : (a : ℕ) → bought_in_all figures (a + 1) ≡ bought_in_all figures a + at figures (cells_per_agent * a + 4)
  unfolding bought_in_all
  bought_more a = sum_step a (λ i. at figures (cells_per_agent * i + 4))
