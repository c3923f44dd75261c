-- What row j of an hour's contracts holds, by name, for the pages that speak of rows by their keys. Assumes nothing.
use Prim.Native.Nat.{ℕ, ◌+◌, ◌*◌}
use Rattle.sums.specs.Lists.{at}
use Rattle.deals.specs.Hour.{Rows}
use Rattle.contracts.specs.Keys.{key_at}
use Rattle.contracts.specs.Sides.{side_of}

module _ (s : Rows) where
  abbrev pub buyer : ℕ → ℕ
  buyer j = at s.buyers j

  abbrev pub kind_at : ℕ → ℕ
  kind_at j = at s.kinds j

  abbrev pub price_at : ℕ → ℕ
  price_at j = at s.prices j

  abbrev pub quantity_at : ℕ → ℕ
  quantity_at j = at s.quantities j

  abbrev pub key : ℕ → ℕ
  key j = key_at s.buyers s.kinds s.prices j

  -- its buyer and its side in one number
  abbrev pub side : ℕ → ℕ
  side j = buyer j * 2 + side_of (kind_at j)
