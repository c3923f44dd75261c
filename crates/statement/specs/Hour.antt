-- The contract amounts of a whole statement: each retailer's follow document 01 on its own rows and demand. Assumes nothing.
use Rattle.std.specs.Prelude.{ℕ, ◌<◌, Bool, List, length, eqb}
use Rattle.sums.specs.Sums.{pick}
use Rattle.sums.specs.Lists.{at, list_to}
use Rattle.deals.specs.Deals.{Deals}
use Rattle.deals.specs.Hour.{Rows, own_to, own_of}
use Rattle.statement.specs.Follows.{Follows}
use Rattle.statement.specs.Decide.{every, good}

-- the amounts stated for agent b's own rows, in row order
unfoldable pub stated_of : Rows → (amounts : List ℕ) → ℕ → ℕ → ℕ
stated_of s amounts b = at (own_to s.buyers b amounts (length s.buyers))

pub record HourFollows (s : Rows) (demands amounts : List ℕ) : Type 0 where
  pub each : (b : ℕ) → b < length demands → Follows (own_of s b) (at demands b) (stated_of s amounts b)

unfoldable pub hour_good : Rows → (demands amounts : List ℕ) → Bool
hour_good s demands amounts = every (length demands) (λ b. good (own_of s b) (at demands b) (stated_of s amounts b))

-- ---- for code that goes over all rows at once

-- of a column, what agent b's rows have, and 0 in the others
unfoldable pub only_of : (buyers : List ℕ) → ℕ → List ℕ → ℕ → ℕ
only_of buyers b l j = pick (eqb (at buyers j) b) (at l j)

-- all rows, those of others than b emptied
unfoldable pub emptied : Rows → ℕ → Deals
emptied s b =
    let n = length s.buyers in
    record {
      kinds = list_to (only_of s.buyers b s.kinds) n;
      prices = s.prices;
      quantities = list_to (only_of s.buyers b s.quantities) n;
    }
