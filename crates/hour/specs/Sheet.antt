-- An hour sheet by its columns: rows are numbered from 0 in their section, and an agent's number is its row. Assumes nothing.
use Rattle.std.specs.Prelude.{ℕ, List, Bool, length}
use Rattle.rows.specs.Rows.{carries_losses, is_outside}
use Rattle.sums.specs.Lists.{at}
use Rattle.deals.specs.Hour.{Rows}

pub record Sheet : Type 0 where
  -- agents: kind
  pub kinds : List ℕ
  -- boundaries: agent, factor, import, export
  pub owners : List ℕ
  pub factors : List ℕ
  pub imports : List ℕ
  pub exports : List ℕ
  -- plants: agent, inflexible, must-run, price, availability
  pub holders : List ℕ
  pub flags : List ℕ
  pub must_run : List ℕ
  pub offers : List ℕ
  pub available : List ℕ
  -- contracts: seller, and the columns that its buyer's contracts are worked out from
  pub sellers : List ℕ
  pub deals : Rows

abbrev pub agents : Sheet → ℕ
agents s = length s.kinds

abbrev pub boundaries : Sheet → ℕ
boundaries s = length s.owners

abbrev pub plants : Sheet → ℕ
plants s = length s.holders

abbrev pub contracts : Sheet → ℕ
contracts s = length s.sellers

-- who carries losses is metered as a retailer, any other agent as a generator
unfoldable pub retails : Sheet → ℕ → Bool
retails s a = carries_losses (at s.kinds a)

-- a small generator stands outside central dispatch
unfoldable pub outside : Sheet → ℕ → Bool
outside s a = is_outside (at s.kinds a)
